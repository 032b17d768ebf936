use Rattle.rule_model.proofs.RuleSets.{answer-permutation}
use Rattle.rule_model.proofs.laws.answers_in_any_order.Goals as goal

pub returns : goal.returns
returns c = answer-permutation
