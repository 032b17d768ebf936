use Rattle.std.proofs.Common.{◌≡◌, ◌++◌, ◌+◌, ◌-◌}
use Rattle.kept_numbers.specs.Numbered.{spread}
use Rattle.kept_numbers.proofs.numbering.put_spread.Given as goal

abbrev pub invariant-loop-place : goal.invariant-loop-place
invariant-loop-place l = record {
  put : l.into.items ++ spread l.low l.gap (l.count + 1) l.place (l.count + 1 - l.place) ≡ l.fn.into.items ++ spread l.low l.gap (l.count + 1) 1 l.count;
}
