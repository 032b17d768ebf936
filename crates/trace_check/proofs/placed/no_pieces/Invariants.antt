use Rattle.std.proofs.Common.{◌≡◌, None, replicate}
use Rattle.trace_check.proofs.placed.no_pieces.Given as goal

abbrev pub invariant-loop : goal.invariant-loop
invariant-loop l = l.pieces.items ≡ replicate l.counter None
