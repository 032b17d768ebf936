use Rattle.batch_order.proofs.Leaving.{carrying_takes_rules}
use Rattle.batch_order.proofs.laws.carrying_takes_rules.Goals as goal

pub returns : goal.returns
returns c = carrying_takes_rules
