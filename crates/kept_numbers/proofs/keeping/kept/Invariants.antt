use Rattle.std.proofs.Common.{◌≡◌, ◌++◌, drop}
use Rattle.kept_numbers.specs.Kept.{kept}
use Rattle.kept_numbers.proofs.keeping.kept.Given as goal

abbrev pub invariant-loop-place : goal.invariant-loop-place
invariant-loop-place l = record { told : l.marks.items ++ kept l.rest (drop l.place l.lines) ≡ kept l.older l.lines }
