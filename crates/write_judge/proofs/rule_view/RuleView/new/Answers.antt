use Rattle.write_judge.proofs.rule_view.RuleView.new.Goals as goal

pub invariant_of-result : goal.invariant_of-result
invariant_of-result c = (c.len-count.ensures.falling, c.are_right.ensures, c.in_ok-entries.ensures)
