use Rattle.std.proofs.Common.{take}
use Rattle.std.specs.List.{AllByRecursion}
use Rattle.rule_model.specs.Rule.{HasConditions}
use Rattle.write_judge.proofs.rule_view.are_right.Given as goal

-- those of the first rules are
abbrev pub invariant-loop-i : goal.invariant-loop-i
invariant-loop-i l = AllByRecursion HasConditions (take l.i l.rules.rules)
