use Rattle.batch_order.proofs.back.WayBack.{steps_keep_the_way_back}
use Rattle.batch_order.proofs.laws.steps_keep_the_way_back.Goals as goal

pub returns : goal.returns
returns c = steps_keep_the_way_back
