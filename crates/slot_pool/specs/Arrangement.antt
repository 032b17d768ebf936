-- Arrangements of ids in slots: a list of slots, each empty or an id.
use Rattle.std.specs.Prelude.{◌≡◌, ◌≢◌, ◌<◌, ◌≤◌, ℕ, Bool, true, false, ◌==◌, ◌&&◌, nat_lt, nat_le, Option, Some, None, List, [], ◌∷◌, length, filter, reverse, is_none, if◌then◌else◌}
use Rattle.std.specs.List.{find, range_with_len}
use Rattle.std.specs.Int.{abs_diff}
use Rattle.slot_order.specs.Order.{slot}

-- each slot is empty or holds an id
abbrev pub Slots : Type 0
Slots = List (Option ℕ)

-- the numbers of the slots, rising
abbrev pub slot_numbers : Slots → List ℕ
slot_numbers slots = range_with_len 0 (length slots)

-- the slot is empty
abbrev pub is_free : Slots → ℕ → Bool
is_free slots at = is_none (slot slots at)

-- the slot is empty, and is one from the first place up to the second
abbrev pub is_free_within : Slots → ℕ → ℕ → ℕ → Bool
is_free_within slots from to at = nat_le from at && nat_lt at to && is_free slots at

-- the slot holds an id that passes the test
abbrev pub passes : (ℕ → Bool) → Option ℕ → Bool
passes test None = false
passes test (Some id) = test id

-- the first slot whose id passes a test
abbrev pub first_slot : (ℕ → Bool) → Slots → Option ℕ
first_slot test slots = find (λ at. passes test (slot slots at)) (slot_numbers slots)

-- the last slot whose id passes a test
abbrev pub last_slot : (ℕ → Bool) → Slots → Option ℕ
last_slot test slots = find (λ at. passes test (slot slots at)) (reverse (slot_numbers slots))

-- of a slot and a later one that was found, the nearer one, the lower of two
abbrev pub nearer : ℕ → ℕ → Option ℕ → Option ℕ
nearer mid at None = Some at
nearer mid at (Some later) = if nat_lt (abs_diff later mid) (abs_diff at mid) then Some later else Some at

-- of rising slots the one at the least distance from a place, the lower of two
abbrev pub nearest : ℕ → List ℕ → Option ℕ
nearest mid [] = None
nearest mid (at ∷ slots) = nearer mid at (nearest mid slots)

-- the free slot from one place up to another that is nearest to a third, the lower of two
abbrev pub nearest_free : Slots → ℕ → ℕ → ℕ → Option ℕ
nearest_free slots from to mid =
    nearest mid (filter (λ at. is_free_within slots from to at) (slot_numbers slots))

-- what was found is the least free slot from one place on and before another
abbrev pub IsFirstFree : Slots → ℕ → ℕ → Option ℕ → Type 0
IsFirstFree slots from to None = (at : ℕ) → from ≤ at → at < to → is_free slots at ≡ false
IsFirstFree slots from to (Some found) =
    (from ≤ found) × (found < to) × (is_free slots found ≡ true) × ((at : ℕ) → from ≤ at → at < found → is_free slots at ≡ false)

-- the least free slot above a place
abbrev pub next_free_above : Slots → ℕ → Option ℕ
next_free_above slots place = find (λ at. nat_lt place at && is_free slots at) (slot_numbers slots)

-- the greatest free slot below a place
abbrev pub last_free_below : Slots → ℕ → Option ℕ
last_free_below slots place = find (λ at. nat_lt at place && is_free slots at) (reverse (slot_numbers slots))

-- the least slot that holds an id
abbrev pub home_of : Slots → ℕ → Option ℕ
home_of slots id = first_slot (λ held. held == id) slots

-- what stands in the slot stands in another one too
abbrev pub HasTwin : Slots → ℕ → Type 0
HasTwin slots at =
    (id : ℕ) × (other : ℕ) × (slot slots at ≡ Some id) × (slot slots other ≡ Some id) × (other ≢ at)
