-- The least slot of each id, and the sum of the slots that hold it, kept beside the slots.
use Rattle.std.specs.Prelude.{◌≡◌, ◌≢◌, ℕ, suc, ◌+◌, ◌<◌, ◌≤◌, ◌==◌, List, [], ◌∷◌, Option, Some, None, cond, length, min, slice_index_or}
use Rattle.slot_order.specs.Order.{slot}
use Rattle.slot_pool.specs.Arrangement.{Slots, passes}

-- what was found is the least slot from a place on that holds an id
abbrev pub IsFirstOf : Slots → ℕ → ℕ → Option ℕ → Type 0
IsFirstOf slots from id None = (k : ℕ) → from ≤ k → slot slots k ≢ Some id
IsFirstOf slots from id (Some at) = (from ≤ at) × (slot slots at ≡ Some id) × ((k : ℕ) → from ≤ k → k < at → slot slots k ≢ Some id)

-- of each id below the number of slots, its least slot
pub record AreHomes (slots homes : Slots) : Type 0 where
  pub size : length homes ≡ length slots
  pub first : (id : ℕ) → id < length slots → IsFirstOf slots 0 id (slot homes id)

-- of a slot, if there is one, and another the lesser
abbrev pub earlier : Option ℕ → ℕ → Option ℕ
earlier None at = Some at
earlier (Some home) at = Some (min home at)

-- a place, where an id is held there
abbrev pub place_of : ℕ → ℕ → Option ℕ → ℕ
place_of id at held = cond (passes (λ x. x == id) held) at 0

-- the sum of the places that hold an id, of slots from a place on, and of all
abbrev pub sum_from : ℕ → ℕ → Slots → ℕ
sum_from id at [] = 0
sum_from id at (held ∷ slots) = place_of id at held + sum_from id (suc at) slots

abbrev pub sum_of : Slots → ℕ → ℕ
sum_of slots id = sum_from id 0 slots

-- of each id below the number of slots, the sum of the slots that hold it
pub record AreSums (slots : Slots) (sums : List ℕ) : Type 0 where
  pub size : length sums ≡ length slots
  pub each : (id : ℕ) → id < length slots → slice_index_or sums id 0 ≡ sum_of slots id
