use Rattle.std.proofs.Common.{◌≡◌, take}
use Rattle.trace_check.proofs.known.with_entries.Given as goal

-- the first pieces are in
abbrev pub invariant-loop-ranked : goal.invariant-loop-ranked
invariant-loop-ranked l = l.all.items ≡ take l.ranked-index l.pieces
