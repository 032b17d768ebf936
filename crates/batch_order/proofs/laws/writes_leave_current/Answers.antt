use Rattle.batch_order.proofs.back.Turned.{writes_leave_current}
use Rattle.batch_order.proofs.laws.writes_leave_current.Goals as goal

pub returns : goal.returns
returns c = writes_leave_current
