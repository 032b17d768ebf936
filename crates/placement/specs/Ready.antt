-- An arrangement in which an id is to be placed, and what its chains go along.
use Rattle.std.specs.Prelude.{◌≡◌, ◌≢◌, ℕ, ◌<◌, ◌≤◌, IsTrue, Option, None, Some, MatchOption, List, length, slice_index_or}
use Rattle.slot_order.specs.Order.{slot, most_slots}
use Rattle.slot_pool.specs.Arrangement.{Slots, home_of}
use Rattle.placement.specs.declared.LivePiece.{LivePiece}
use Rattle.placement.specs.Live.{Homes, LivePieces, AreApart, home_in, is_live, is_above}
use Rattle.placement.specs.Placement.{Above, StopsBelow, StopsAbove, step_down, step_up, IsInOrder}
use Rattle.placement.specs.Insertion.{IsOther, StandOnce, free_slots}

-- an id stands in the slot
abbrev pub IsTaken : Slots → ℕ → Type 0
IsTaken slots at = (id : ℕ) × (slot slots at ≡ Some id)

-- the next slot of a down chain, where it is before the free one, and nothing where the chain stops
abbrev pub StepsDown : Above → Slots → ℕ → ℕ → Option ℕ → Type 0
StepsDown above slots free at found =
    MatchOption found (StopsBelow free (step_down above slots at))
    (λ next. (step_down above slots at ≡ Some next) × (at < next) × (next < free) × IsTaken slots next)

-- the mirror
abbrev pub StepsUp : Above → Slots → ℕ → ℕ → Option ℕ → Type 0
StepsUp above slots free at found =
    MatchOption found (StopsAbove free (step_up above slots at))
    (λ next. (step_up above slots at ≡ Some next) × (next < at) × (free < next) × IsTaken slots next)

-- the members of a chain are taken slots, none twice, and can move towards a free slot
pub record CanShift (slots : Slots) (free : ℕ) (members : List ℕ) : Type 0 where
  pub some : 0 < length members
  pub room : free < length slots
  pub empty : slot slots free ≡ None
  pub taken : (k : ℕ) → k < length members → IsTaken slots (slice_index_or members k free)
  pub apart : (j k : ℕ) → j < k → k < length members → slice_index_or members j free ≢ slice_index_or members k free

-- an arrangement in which a live id is to be placed
pub record IsReady (index : LivePieces) (id : ℕ) (slots : Slots) : Type 0 where
  pub few : length slots ≤ most_slots
  pub free : 0 < free_slots slots
  pub live : IsTrue (is_live index.live id)
  pub apart : AreApart index.slots index.live
  pub standing : StandOnce (IsOther index.live id) slots
  pub order : IsInOrder (is_above index.live) slots

-- Where this is kept each live id stands where that was told, but for some of them.
abbrev pub AreToldBut : (ℕ → Type 0) → List LivePiece → Option Homes → Slots → Type 0
AreToldBut Open live told slots =
    (homes : Homes) → told ≡ Some homes → (id : ℕ) → IsTrue (is_live live id) → (Open id → ⊥) → home_in homes id ≡ home_of slots id

-- each does
abbrev pub IsTold : LivePieces → Slots → Type 0
IsTold index slots = AreToldBut (λ id. ⊥) index.live index.told slots
