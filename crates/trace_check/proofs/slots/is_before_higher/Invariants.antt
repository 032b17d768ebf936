use Rattle.std.proofs.Common.{◌≡◌, ℕ, ◌-◌, ◌<◌, ◌≤◌, Some}
use Rattle.slot_order.specs.Order.{slot}
use Rattle.rule_model.specs.Piece.{PiecesOverlap}
use Rattle.rule_model.specs.Entry.{RankedPiece}
use Rattle.trace_check.proofs.slots.is_before_higher.Given as goal

-- none of the next slots has such a piece
abbrev pub invariant-loop-greater : goal.invariant-loop-greater
invariant-loop-greater l = record {
  past : l.at < l.greater;
  most : l.greater ≤ l.slots;
  none : (j : ℕ) (second : RankedPiece) → l.at < j → j < l.greater → slot l.places j ≡ Some second → PiecesOverlap l.ranked.piece second.piece → second.rank ≤ l.ranked.rank;
}

abbrev pub decreases-loop-greater : goal.decreases-loop-greater
decreases-loop-greater l = l.slots - l.greater
