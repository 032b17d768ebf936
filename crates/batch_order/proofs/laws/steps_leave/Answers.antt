use Rattle.batch_order.proofs.Leaving.{steps_leave}
use Rattle.batch_order.proofs.laws.steps_leave.Goals as goal

pub returns : goal.returns
returns c = steps_leave
