use Rattle.write_judge.proofs.rule_view.RuleView.complete.Goals as goal

pub rule_entries-requires-clause-is_set : goal.rule_entries-requires-clause-is_set
rule_entries-requires-clause-is_set c = c.self.invariant.0

pub rule_entries-requires-clause-right : goal.rule_entries-requires-clause-right
rule_entries-requires-clause-right c = c.self.invariant.1

pub invariant_of-self : goal.invariant_of-self
invariant_of-self c = (c.self.invariant.0, c.self.invariant.1, c.in-Ok.ensures)
