-- Which piece stands in each slot, and whether these are in order.
use Rattle.std.specs.Prelude.{◌≡◌, ℕ, ◌<◌, ◌≤◌, Option, Some, None, List, Contains, length}
use Rattle.slot_order.specs.Order.{slot}
use Rattle.rule_model.specs.Piece.{PiecesOverlap}
use Rattle.rule_model.specs.declared.words.Entry.{Entry}
use Rattle.rule_model.specs.Entry.{RankedPiece, entry_for}

-- each slot that holds the entry of one of some pieces has such a piece, and each other slot none
pub record AreIn (held : List (Option Entry)) (pieces : List RankedPiece) (places : List (Option RankedPiece)) : Type 0 where
  pub size : length places ≡ length held
  pub known : (at : ℕ) (ranked : RankedPiece) → slot places at ≡ Some ranked → Contains pieces ranked × (slot held at ≡ Some (entry_for ranked))
  pub strange : (at : ℕ) (entry : Entry) → slot held at ≡ Some entry → slot places at ≡ None → (ranked : RankedPiece) → Contains pieces ranked → entry_for ranked ≡ entry → ⊥

-- of two slots whose pieces overlap the later has no greater tag
abbrev pub AreInOrder : List (Option RankedPiece) → Type 0
AreInOrder places =
    (i j : ℕ) (first second : RankedPiece) → i < j → slot places i ≡ Some first → slot places j ≡ Some second
    → PiecesOverlap first.piece second.piece → second.rank ≤ first.rank

-- a lesser slot has an overlapping piece of lesser tag
pub record IsBehindLower (places : List (Option RankedPiece)) (at : ℕ) : Type 0 where
  pub lesser : ℕ
  pub less : lesser < at
  pub low : RankedPiece
  pub high : RankedPiece
  pub here : slot places lesser ≡ Some low
  pub there : slot places at ≡ Some high
  pub overlap : PiecesOverlap low.piece high.piece
  pub lower : low.rank < high.rank
