use Rattle.std.proofs.Common.{◌≡◌, ℕ, ◌-◌, ◌<◌, ◌≤◌, Some}
use Rattle.slot_order.specs.Order.{slot}
use Rattle.rule_model.specs.Piece.{PiecesOverlap}
use Rattle.rule_model.specs.Entry.{RankedPiece}
use Rattle.trace_check.proofs.slots.is_behind_lower.Given as goal

-- none of the first slots has such a piece
abbrev pub invariant-loop-lesser : goal.invariant-loop-lesser
invariant-loop-lesser l = record {
  most : l.lesser ≤ l.at;
  none : (i : ℕ) (first : RankedPiece) → i < l.lesser → slot l.places i ≡ Some first → PiecesOverlap first.piece l.ranked.piece → l.ranked.rank ≤ first.rank;
}

abbrev pub decreases-loop-lesser : goal.decreases-loop-lesser
decreases-loop-lesser l = l.at - l.lesser
