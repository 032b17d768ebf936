use Rattle.std.proofs.Common.{◌≡◌, drop}
use Rattle.kept_numbers.specs.Kept.{is_gone}
use Rattle.kept_numbers.proofs.keeping.is_gone.Given as goal

abbrev pub invariant-loop-place : goal.invariant-loop-place
invariant-loop-place l = record { told : is_gone l.words (drop l.place l.behind) l.line (drop l.place l.lines) ≡ is_gone l.words l.behind l.line l.lines }
