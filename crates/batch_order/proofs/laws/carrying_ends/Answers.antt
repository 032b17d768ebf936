use Rattle.batch_order.proofs.Leaving.{carrying_ends}
use Rattle.batch_order.proofs.laws.carrying_ends.Goals as goal

pub returns : goal.returns
returns c = carrying_ends
