use Rattle.std.proofs.Common.{◌≡◌, ℕ, ◌<◌, ◌≤◌, Some}
use Rattle.slot_order.specs.Order.{slot}
use Rattle.rule_model.specs.Piece.{PiecesOverlap}
use Rattle.rule_model.specs.Entry.{RankedPiece}
use Rattle.readback.proofs.crossing.crossed.Given as goal

-- the first slots are in order
abbrev pub invariant-loop-at : goal.invariant-loop-at
invariant-loop-at l = (i j : ℕ) (first second : RankedPiece) → j < l.at → i < j → slot l.places i ≡ Some first → slot l.places j ≡ Some second
    → PiecesOverlap first.piece second.piece → second.rank ≤ first.rank
