use Rattle.rule_store.proofs.After.{set_after-set}
use Rattle.rule_store.proofs.laws.is_a_set_afterward.Goals as goal

pub returns : goal.returns
returns c = set_after-set
