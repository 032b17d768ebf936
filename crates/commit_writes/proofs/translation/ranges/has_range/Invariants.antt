use Rattle.std.proofs.Common.{◌≡◌, false, take}
use Rattle.std.specs.List.{list_any}
use Rattle.rule_model.specs.PortRange.{same_range}
use Rattle.rule_model.specs.Rule.{range_of}
use Rattle.commit_writes.proofs.translation.ranges.has_range.Given as goal

-- no rule so far has it
abbrev pub invariant-loop-place : goal.invariant-loop-place
invariant-loop-place l = list_any (λ rule. same_range l.range (range_of l.field rule)) (take l.place l.rules.rules) ≡ false
