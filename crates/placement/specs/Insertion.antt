-- What an insertion finds and what it leaves.
use Rattle.std.specs.Prelude.{◌≡◌, ◌≢◌, ℕ, IsTrue, Some, List, ◌++◌, length, drop, Contains, count_by, is_none}
use Rattle.slot_order.specs.Order.{slot}
use Rattle.slot_order.specs.Chains.{BoundsMemberChains}
use Rattle.slot_pool.specs.Arrangement.{Slots}
use Rattle.rule_model.specs.Piece.{pieces_meet}
use Rattle.placement.specs.declared.LivePiece.{LivePiece}
use Rattle.placement.specs.Live.{is_live}
use Rattle.placement.specs.declared.Move.{Move}
use Rattle.placement.specs.Placement.{after_moves}

-- the moves that a plan gained since an earlier one
abbrev pub moves_since : List Move → List Move → List Move
moves_since before after = drop (length before) after

-- some moves were added to a plan and made in an arrangement
abbrev pub AreMade : Slots → Slots → List Move → List Move → Type 0
AreMade slots slots' plan plan' = (plan' ≡ plan ++ moves_since plan plan') × (slots' ≡ after_moves slots (moves_since plan plan'))

-- the id is live
abbrev pub IsLive : List LivePiece → ℕ → Type 0
IsLive live id = IsTrue (is_live live id)

-- the id is live, and isn't this one
abbrev pub IsOther : List LivePiece → ℕ → ℕ → Type 0
IsOther live new id = IsTrue (is_live live id) × (id ≢ new)

-- each of some ids stands in exactly one slot, and no other id stands
pub record StandOnce (Standing : ℕ → Type 0) (slots : Slots) : Type 0 where
  pub within : (at id : ℕ) → slot slots at ≡ Some id → Standing id
  pub placed : (id : ℕ) → Standing id → (at : ℕ) × (slot slots at ≡ Some id)
  pub once : (i j id : ℕ) → slot slots i ≡ Some id → slot slots j ≡ Some id → i ≡ j

-- how many slots are empty
abbrev pub free_slots : Slots → ℕ
free_slots slots = count_by (λ held. is_none held) slots

-- no overlap chain of live pieces, each of higher priority than the next, is longer
abbrev pub BoundsLiveChains : List LivePiece → ℕ → Type 0
BoundsLiveChains live bound =
    BoundsMemberChains (λ upper lower. IsTrue (pieces_meet upper.piece lower.piece)) (λ one. one.rank) (Contains live) bound
