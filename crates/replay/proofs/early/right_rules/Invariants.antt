use Rattle.std.proofs.Common.{take}
use Rattle.std.specs.List.{AllByRecursion}
use Rattle.rule_model.specs.Rule.{HasConditions}
use Rattle.replay.proofs.early.right_rules.Given as goal

-- those of the first rules are
abbrev pub invariant-loop-place : goal.invariant-loop-place
invariant-loop-place l = AllByRecursion HasConditions (take l.place l.rules.rules)
