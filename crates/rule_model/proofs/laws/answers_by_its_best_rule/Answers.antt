use Rattle.rule_model.proofs.RuleSets.{best_rule-is}
use Rattle.rule_model.proofs.laws.answers_by_its_best_rule.Goals as goal

pub returns : goal.returns
returns c = best_rule-is
