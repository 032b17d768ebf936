use Rattle.std.proofs.Common.{◌≡◌, drop}
use Rattle.kept_numbers.specs.Kept.{standing}
use Rattle.kept_numbers.proofs.keeping.standing.Given as goal

abbrev pub invariant-loop-place : goal.invariant-loop-place
invariant-loop-place l = record { told : standing (drop l.place l.older) l.line l.lines ≡ standing l.older l.line l.lines }
