use Rattle.std.proofs.Common.{◌≡◌, ◌++◌, ◌+◌, ◌-◌, ◌*◌}
use Rattle.kept_numbers.specs.Numbered.{tens}
use Rattle.kept_numbers.proofs.numbering.put_tens.Given as goal

abbrev pub invariant-loop-place : goal.invariant-loop-place
invariant-loop-place l = record { put : l.into.items ++ tens (l.first + 10 * l.place) (l.count - l.place) ≡ l.fn.into.items ++ tens l.first l.count }
