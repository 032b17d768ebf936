use Rattle.std.proofs.Common.{◌≡◌, take}
use Rattle.batch_order.specs.Placing.{ranks_of}
use Rattle.batch_order.proofs.insertions.ranks_of.Given as goal

-- the priorities of the first pieces
abbrev pub invariant-loop-ranked : goal.invariant-loop-ranked
invariant-loop-ranked l = l.ranks.items ≡ ranks_of (take l.ranked-index l.pieces)
