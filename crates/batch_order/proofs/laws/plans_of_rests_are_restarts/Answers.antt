use Rattle.batch_order.proofs.restarted.Rested.{plans_rest}
use Rattle.batch_order.proofs.laws.plans_of_rests_are_restarts.Goals as goal

pub returns : goal.returns
returns c = plans_rest
