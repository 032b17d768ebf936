-- Single writes of slots, and chains of entries that overlap.
use Rattle.std.specs.Prelude.{ℕ, ◌<◌, ◌≤◌, List, [], ◌∷◌, length, Option, slice_set, Contains}
use Rattle.slot_order.specs.Order.{slot}

-- the slots after some writes, each a slot and what stands there from now on
abbrev pub applied : {E : Type 0} → List (Option E) → List (ℕ × Option E) → List (Option E)
applied slots [] = slots
applied slots (write ∷ writes) = applied (slice_set slots write.0 write.1) writes

-- a fact holds of the slots now and after each write
abbrev pub Along : {E : Type 0} → (List (Option E) → Type 0) → List (Option E) → List (ℕ × Option E) → Type 0
Along Fact slots [] = Fact slots
Along Fact slots (write ∷ writes) = Fact slots × Along Fact (slice_set slots write.0 write.1) writes

-- entries of strictly falling tags, each overlapping the next
abbrev pub IsChain : {E : Type 0} → (E → E → Type 0) → (E → ℕ) → List E → Type 0
IsChain over tag [] = Unit {0}
IsChain over tag (only ∷ []) = Unit {0}
IsChain over tag (upper ∷ lower ∷ rest) = over upper lower × (tag lower < tag upper) × IsChain over tag (lower ∷ rest)

-- no chain of members is longer
abbrev pub BoundsMemberChains : {E : Type 0} → (E → E → Type 0) → (E → ℕ) → (E → Type 0) → ℕ → Type 0
BoundsMemberChains {E} over tag Member bound =
    (chain : List E) → ((entry : E) → Contains chain entry → Member entry) → IsChain over tag chain → length chain ≤ bound
