use Rattle.std.proofs.Common.{subst}
use Rattle.std.specs.List.{AllByRecursion}
use Rattle.rule_model.specs.Rule.{HasConditions}
use Rattle.rule_model.specs.RuleSet.{IsRuleSet}
use Rattle.write_judge.proofs.rule_view.RuleView.is_right.Goals as goal

pub returns-clause-is_set : goal.returns-clause-is_set
returns-clause-is_set c = subst IsRuleSet c.self.view_is c.self.invariant.0

pub returns-clause-right : goal.returns-clause-right
returns-clause-right c = subst (AllByRecursion HasConditions) c.self.view_is c.self.invariant.1
