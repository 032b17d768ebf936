-- Writes in any order: what must hold of the entries that stand, so that every key has the old or the new answer.
use Rattle.std.specs.Prelude.{◌≡◌, ◌≤◌, ◌⊎◌, IsTrue, List, Contains}
use Rattle.slot_order.specs.Order.{Distinct}
use Rattle.rule_model.specs.declared.Key.{Key}
use Rattle.rule_model.specs.declared.Rule.{Rule}
use Rattle.rule_model.specs.Key.{IsKey}
use Rattle.rule_model.specs.Rule.{rule_matches}
use Rattle.rule_model.specs.Piece.{piece_matches, PiecesOverlap}
use Rattle.rule_model.specs.Entry.{RankedPiece, entry_for}
use Rattle.tcam_device.specs.State.{State, hits_key}
use Rattle.tcam_device.specs.Order.{IsOrdered}
use Rattle.tcam_device.specs.Hitless.{ShowsOldOrNew}

-- Pieces that some rules are cut into, in whatever way: each is of one of them, and a key that a rule matches is matched by
-- one of its pieces.
pub record AreCutFrom (rules : List Rule) (Member : RankedPiece → Type 0) : Type 0 where
  pub of : (ranked : RankedPiece) → Member ranked → (rule : Rule) × Contains rules rule × (ranked.rank ≡ rule.priority) × (ranked.result ≡ rule.result)
      × ((key : Key) → IsKey key → IsTrue (piece_matches ranked.piece key) → IsTrue (rule_matches rule key))
  pub cover : (rule : Rule) (key : Key) → Contains rules rule → IsKey key → IsTrue (rule_matches rule key)
      → (ranked : RankedPiece) × Member ranked × (ranked.rank ≡ rule.priority) × IsTrue (piece_matches ranked.piece key)

-- by the tables now each piece's entry hits the keys that the piece matches
abbrev pub HitAsMatched : State → (RankedPiece → Type 0) → Type 0
HitAsMatched state Member =
    (ranked : RankedPiece) (key : Key) → Member ranked → IsKey key → hits_key state (entry_for ranked) key ≡ piece_matches ranked.piece key

-- the piece stands, with whatever result
abbrev pub PieceStands : (RankedPiece → Type 0) → RankedPiece → Type 0
PieceStands Standing ranked = (is : RankedPiece) × Standing is × (is.piece ≡ ranked.piece) × (is.rank ≡ ranked.rank)

-- no piece of some that overlaps this one and is higher is missing
abbrev pub IsAhead : (RankedPiece → Type 0) → (RankedPiece → Type 0) → RankedPiece → Type 0
IsAhead Some Standing ranked =
    (other : RankedPiece) → Some other → PiecesOverlap other.piece ranked.piece → PieceStands Standing other ⊎ (other.rank ≤ ranked.rank)

-- The pieces that stand are in step: none is behind a missing one of its own set that overlaps it, and where an old piece
-- and a new one overlap, one of the two stands. So a piece may come, go, move and get its new result at any time, as long as
-- those that overlap it are where they must be.
pub record AreInStep (Old New Standing : RankedPiece → Type 0) : Type 0 where
  pub each : (ranked : RankedPiece) → Standing ranked → (Old ranked × IsAhead Old Standing ranked) ⊎ (New ranked × IsAhead New Standing ranked)
  pub no_gap : (old new : RankedPiece) → Old old → New new → PiecesOverlap old.piece new.piece → PieceStands Standing old ⊎ PieceStands Standing new

-- Every key has the old or the new answer then.
abbrev pub AnyOrderAnswersOldOrNew : Type 0
AnyOrderAnswersOldOrNew =
    (state : State) (old new : List Rule) (old_pieces new_pieces standing : List RankedPiece)
    → Distinct (λ (rule : Rule). rule.priority) old → Distinct (λ (rule : Rule). rule.priority) new
    → AreCutFrom old (Contains old_pieces) → AreCutFrom new (Contains new_pieces)
    → HitAsMatched state (Contains standing) → IsOrdered state (Contains standing)
    → AreInStep (Contains old_pieces) (Contains new_pieces) (Contains standing) → ShowsOldOrNew state old new
