-- The columns of a list of slots.
use Rattle.std.specs.Prelude.{◌≡◌, ℕ, ◌<◌, ◌≤◌, Bool, true, false, ◌==◌, ◌&&◌, ◌||◌, not, if◌then◌else◌, Option, Some, None, List, [], ◌∷◌, length, replicate, slice_index, slice_set, bit_and, bit_xor, ◌+◌}
use Rattle.std.specs.List.{AllByRecursion}
use Rattle.slot_order.specs.Order.{slot, most_slots}
use Rattle.rule_model.specs.declared.words.Word.{Word}
use Rattle.rule_model.specs.declared.words.Entry.{Entry}

-- One lane of every slot: the values, the masks, and whether some mask was ever other than 0.
pub record Lane : Type 0 where
  pub values : List ℕ
  pub masks : List ℕ
  pub used : Bool

-- the bits of a lane that keep a slot from hitting
abbrev pub lane_off : Lane → ℕ → ℕ → ℕ
lane_off lane word place = bit_and (bit_xor word (slice_index lane.values place)) (slice_index lane.masks place)

-- no lane of a word keeps the slot from hitting
abbrev pub lanes_agree : List Lane → List ℕ → ℕ → Bool
lanes_agree (lane ∷ lanes) (word ∷ words) place = (lane_off lane word place == 0) && lanes_agree lanes words place
lanes_agree lanes words place = true

-- the slot isn't empty, and no lane keeps it from hitting the word
abbrev pub row_hits : List Lane → List ℕ → Word → ℕ → Bool
row_hits lanes vacant word place = (slice_index vacant place == 0) && lanes_agree lanes word.lane place

-- both columns of a lane are of this many slots
abbrev pub HasSize : ℕ → Lane → Type 0
HasSize size lane = (length lane.values ≡ size) × (length lane.masks ≡ size)

-- both columns of a lane have the slot
abbrev pub HasPlace : ℕ → Lane → Type 0
HasPlace place lane = (place < length lane.values) × (place < length lane.masks)

-- a lane with one slot's value and mask put
abbrev pub with_cell : Lane → ℕ → ℕ → ℕ → Lane
with_cell lane value mask place =
    record {
      values = slice_set lane.values place value;
      masks = slice_set lane.masks place mask;
      used = lane.used || not (mask == 0);
    }

-- a lane of zeros for this many slots
abbrev pub blank_lane : ℕ → Lane
blank_lane slots = record { values = replicate slots 0; masks = replicate slots 0; used = false }

-- the numbers of the lanes in use, where the first lane has this number
abbrev pub used_from : List Lane → ℕ → List ℕ
used_from [] number = []
used_from (lane ∷ lanes) number =
    if lane.used then number ∷ used_from lanes (number + 1) else used_from lanes (number + 1)

-- a lane that isn't in use has no mask other than 0
abbrev pub IsZeroUnlessUsed : Lane → Type 0
IsZeroUnlessUsed lane = lane.used ≡ false → (place : ℕ) → slice_index lane.masks place ≡ 0

-- lanes with one slot's values and masks put
abbrev pub with_row : List Lane → List ℕ → List ℕ → ℕ → List Lane
with_row (lane ∷ lanes) (value ∷ values) (mask ∷ masks) place = with_cell lane value mask place ∷ with_row lanes values masks place
with_row lanes values masks place = lanes

-- the lanes hold these values and masks at the slot
abbrev pub HoldRow : List Lane → List ℕ → List ℕ → ℕ → Type 0
HoldRow [] [] [] place = Unit {0}
HoldRow (lane ∷ lanes) (value ∷ values) (mask ∷ masks) place =
    (slice_index lane.values place ≡ value) × (slice_index lane.masks place ≡ mask) × HoldRow lanes values masks place
HoldRow lanes values masks place = ⊥

-- a slot's vacancy and what the lanes hold for it, where the slot is empty or holds an entry
abbrev pub IsRow : List Lane → ℕ → ℕ → Option Entry → Type 0
IsRow lanes vacancy place None = vacancy ≡ 1
IsRow lanes vacancy place (Some entry) = (vacancy ≡ 0) × HoldRow lanes entry.value.lane entry.mask.lane place

-- The list of the lanes in use, in memory that has room for every lane.
pub record AreUsed (lanes : List Lane) (used : List ℕ) (capacity : ℕ) : Type 0 where
  pub listed : used ≡ used_from lanes 0
  pub zeros : AllByRecursion IsZeroUnlessUsed lanes
  pub room : 11 ≤ capacity

-- The columns of these slots.
pub record AreColumns (slots : List (Option Entry)) (lanes : List Lane) (vacant : List ℕ) : Type 0 where
  pub most : length slots ≤ most_slots
  pub count : length lanes ≡ 11
  pub vacant_size : length vacant ≡ length slots
  pub sizes : AllByRecursion (HasSize (length slots)) lanes
  pub rows : (place : ℕ) → place < length slots → IsRow lanes (slice_index vacant place) place (slot slots place)
