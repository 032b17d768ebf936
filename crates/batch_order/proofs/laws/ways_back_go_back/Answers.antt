use Rattle.batch_order.proofs.Leaving.{ways_back_go_back}
use Rattle.batch_order.proofs.laws.ways_back_go_back.Goals as goal

pub returns : goal.returns
returns c = ways_back_go_back
