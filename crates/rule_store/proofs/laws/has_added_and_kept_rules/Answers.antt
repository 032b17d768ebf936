use Rattle.rule_store.proofs.Members.{set_after-member}
use Rattle.rule_store.proofs.laws.has_added_and_kept_rules.Goals as goal

pub returns : goal.returns
returns c = set_after-member
