use Rattle.batch_order.proofs.Leaving.{turns_leave}
use Rattle.batch_order.proofs.laws.turns_leave.Goals as goal

pub returns : goal.returns
returns c = turns_leave
