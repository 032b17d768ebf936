-- Single writes of slots, and the chains along which entries move.
use Rattle.std.specs.Prelude.{◌≡◌, ℕ, ◌<◌, ◌≤◌, List, [], ◌∷◌, ◌++◌, length, Option, None, Some, suc, ◌⊎◌}
use Rattle.slot_order.specs.Order.{slot}
use Rattle.slot_order.specs.Chains.{applied}

-- which way a chain goes: down, to greater slots and lower entries, or up, to lesser slots and higher entries
pub data Way : Type 0 where
  Downwards : Way
  Upwards : Way

-- Of two slots the first comes before the second on this way, or no later. Priorities go the other way round: of two entries
-- that overlap, the one that must stand further on has the priority that comes before.
abbrev pub IsBefore : Way → ℕ → ℕ → Type 0
IsBefore Downwards first second = first < second
IsBefore Upwards first second = second < first

abbrev pub IsNoLater : Way → ℕ → ℕ → Type 0
IsNoLater Downwards first second = first ≤ second
IsNoLater Upwards first second = second ≤ first

-- no entry that overlaps this one and must stand further on stands before a place
abbrev pub IsClear : {E : Type 0} → Way → (E → E → Type 0) → (E → ℕ) → List (Option E) → E → ℕ → Type 0
IsClear {E} way over tag slots entry place =
    (at : ℕ) (other : E) → IsBefore way at place → slot slots at ≡ Some other → over entry other → IsNoLater way (tag entry) (tag other)

-- from a slot to a free one further on: each next is the first slot on the way of an overlapping entry that must stand
-- further on, and the last has none before the free one
abbrev pub IsMoveChain : {E : Type 0} → Way → (E → E → Type 0) → (E → ℕ) → List (Option E) → ℕ → ℕ → List ℕ → Type 0
IsMoveChain {E} way over tag slots free first [] =
    (entry : E) × (slot slots first ≡ Some entry) × IsBefore way first free × IsClear way over tag slots entry free
IsMoveChain {E} way over tag slots free first (next ∷ rest) =
    ((entry : E) × (slot slots first ≡ Some entry) × IsBefore way first next × IsClear way over tag slots entry next
    × ((other : E) × (slot slots next ≡ Some other) × over entry other × IsBefore way (tag other) (tag entry)))
    × IsMoveChain way over tag slots free next rest

-- the last member goes to the free slot, then each earlier one over the slot of the one after it
abbrev pub chain_moves : {E : Type 0} → List (Option E) → ℕ → ℕ → List ℕ → List (ℕ × Option E)
chain_moves slots free first [] = (free, slot slots first) ∷ []
chain_moves slots free first (next ∷ rest) = chain_moves slots free next rest ++ (next, slot slots first) ∷ []

-- the higher entries that overlap this one stand below a place, one of them just below it
pub record IsFloor {E : Type 0} (over : E → E → Type 0) (tag : E → ℕ) (slots : List (Option E)) (entry : E) (place : ℕ) : Type 0 where
  pub under : (at : ℕ) (other : E) → slot slots at ≡ Some other → over entry other → tag entry < tag other → at < place
  pub met : (last : ℕ) → place ≡ suc last → (upper : E) × (slot slots last ≡ Some upper) × over entry upper × (tag entry < tag upper)

-- the lower entries that overlap this one stand at a place or above, one of them there unless it is past the last slot
pub record IsCeiling {E : Type 0} (over : E → E → Type 0) (tag : E → ℕ) (slots : List (Option E)) (entry : E) (place : ℕ) : Type 0 where
  pub over_it : (at : ℕ) (other : E) → slot slots at ≡ Some other → over entry other → tag other < tag entry → place ≤ at
  pub met : (place ≡ length slots) ⊎ ((lower : E) × (slot slots place ≡ Some lower) × over entry lower × (tag lower < tag entry))

-- a turn: which way, the free slot, the first slot of the chain and the slots after it
pub data Turn : Type 0 where
  Down : (free first : ℕ) (rest : List ℕ) → Turn
  Up : (free first : ℕ) (rest : List ℕ) → Turn

-- the writes of a turn: those along its chain, and the erase of its first slot
abbrev pub turn_moves : {E : Type 0} → List (Option E) → Turn → List (ℕ × Option E)
turn_moves slots (Down free first rest) = chain_moves slots free first rest ++ (first, None) ∷ []
turn_moves slots (Up free first rest) = chain_moves slots free first rest ++ (first, None) ∷ []

-- the writes of some turns, one after the other
abbrev pub turns_moves : {E : Type 0} → List (Option E) → List Turn → List (ℕ × Option E)
turns_moves slots [] = []
turns_moves slots (turn ∷ turns) = turn_moves slots turn ++ turns_moves (applied slots (turn_moves slots turn)) turns
