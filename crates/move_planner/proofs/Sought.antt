-- The next slot of a chain, sought among the slots and among the ids that it may hold, side by side.
use Rattle.std.proofs.Common.{◌≡◌, ℕ, ◌+◌, ◌-◌, ◌<◌, ◌≤◌, true, false, Option, None, Some, MatchOption, length, arith, inl, inr, refl, sym, ◌∙◌, subst}
use Rattle.std.proofs.lemmas.Bool.{cases_lt, cases_eq, both_ways, false_from_ne_true}
use Rattle.slot_order.specs.Order.{slot}
use Rattle.slot_pool.specs.Arrangement.{Slots, passes}
use Rattle.slot_pool.proofs.Places.{first_slot_is}
use Rattle.slot_pool.proofs.Scan.{last_slot_is}
use Rattle.slot_pool.proofs.Finds.{found_first, found_last}
use Rattle.placement.specs.Placement.{Above, first_lower, last_upper, lower_of_held, upper_of_held, step_down, step_up, StopsBelow, StopsAbove, IsInOrder}
use Rattle.placement.specs.Ready.{StepsDown, StepsUp}
use Rattle.placement.proofs.Chain.{passes_is}
use Rattle.placement.proofs.Orders.{stands_first, steps_down_on, steps_up_on}
use Rattle.placement.proofs.Planner.{IsRanked}

-- no slot behind one, up to another, holds a lower id
abbrev pub HoldNoLower : Above → Slots → ℕ → ℕ → ℕ → Type 0
HoldNoLower above slots id at to = (k : ℕ) → at < k → k ≤ to → passes (λ other. above id other) (slot slots k) ≡ false

pub no_lower_on : (above : Above) (slots : Slots) (id at to : ℕ) → HoldNoLower above slots id at to
    → passes (λ other. above id other) (slot slots (to + 1)) ≡ false → HoldNoLower above slots id at (to + 1)
no_lower_on above slots id at to old here k a b = elim (cases_eq (to + 1) k) [
  | inl same ↦ subst (λ n. passes (λ other. above id other) (slot slots n) ≡ false) same here
  | inr other ↦ old k a (omega arith)
]

-- where all are in order, none before it does
none_lower : (above : Above) (rank : ℕ → ℕ) (slots : Slots) (at id to : ℕ) → IsRanked above rank → IsInOrder above slots → slot slots at ≡ Some id
    → HoldNoLower above slots id at to → (k : ℕ) → k ≤ to → passes (λ other. above id other) (slot slots k) ≡ false
none_lower above rank slots at id to ranked order here none k b = false_from_ne_true (passes (λ other. above id other) (slot slots k)) (λ e.
    let p = passes_is (λ other. above id other) (slot slots k) e in
    both_ways _ (none k (stands_first above rank slots at k id p.id ranked order here p.stands p.passing) b) e)

-- the first slot that does is the next of the chain
pub down_found : (above : Above) (rank : ℕ → ℕ) (slots : Slots) (free at id to : ℕ) → IsRanked above rank → IsInOrder above slots → slot slots at ≡ Some id
    → HoldNoLower above slots id at to → to + 1 < free → free < length slots → passes (λ other. above id other) (slot slots (to + 1)) ≡ true
    → StepsDown above slots free at (Some (to + 1))
down_found above rank slots free at id to ranked order here none before inside passing =
    let first = found_first (λ k. passes (λ other. above id other) (slot slots k)) 0 (length slots) (to + 1) (record {
      low = omega arith;
      inside = omega arith;
      passing = passing;
      none_before = λ k a b. none_lower above rank slots at id to ranked order here none k (omega arith);
    }) in
    steps_down_on above rank slots free at id (to + 1) ranked order here first before

-- there is none before the free slot
pub down_free : (above : Above) (rank : ℕ → ℕ) (slots : Slots) (free at id to : ℕ) → IsRanked above rank → IsInOrder above slots → slot slots at ≡ Some id
    → HoldNoLower above slots id at to → to + 1 ≡ free → StopsBelow free (step_down above slots at)
down_free above rank slots free at id to ranked order here none is =
    subst (λ held. StopsBelow free (lower_of_held above slots held)) (sym here) (go (first_lower above slots id) refl)
  where
    go : (found : Option ℕ) → first_lower above slots id ≡ found → StopsBelow free found
    go None e = tt
    go (Some next) e =
        let f = first_slot_is (λ other. above id other) slots next e in
        elim (cases_lt to next) [
          | inl l ↦ omega arith
          | inr m ↦ absurd (both_ways _ (none_lower above rank slots at id to ranked order here none next (omega arith)) f.passing)
        ]

-- the first slot of all lower ids says whether there is one
pub down_ended : (above : Above) (rank : ℕ → ℕ) (slots : Slots) (free at id : ℕ) → IsRanked above rank → IsInOrder above slots → slot slots at ≡ Some id
    → (first found : Option ℕ) → first ≡ first_lower above slots id → MatchOption found (StopsBelow free first) (λ next. (first ≡ Some next) × (next < free))
    → StepsDown above slots free at found
down_ended above rank slots free at id ranked order here first None is stops =
    subst (λ held. StopsBelow free (lower_of_held above slots held)) (sym here) (subst (StopsBelow free) is stops)
down_ended above rank slots free at id ranked order here first (Some next) is goes =
    steps_down_on above rank slots free at id next ranked order here (sym is ∙ goes.0) goes.1

-- the mirror
abbrev pub HoldNoUpper : Above → Slots → ℕ → ℕ → ℕ → Type 0
HoldNoUpper above slots id at to = (k : ℕ) → to ≤ k → k < at → passes (λ other. above other id) (slot slots k) ≡ false

pub no_upper_on : (above : Above) (slots : Slots) (id at to : ℕ) → HoldNoUpper above slots id at to
    → passes (λ other. above other id) (slot slots (to - 1)) ≡ false → HoldNoUpper above slots id at (to - 1)
no_upper_on above slots id at to old here k a b = elim (cases_eq (to - 1) k) [
  | inl same ↦ subst (λ n. passes (λ other. above other id) (slot slots n) ≡ false) same here
  | inr other ↦ old k (omega arith) b
]

none_upper : (above : Above) (rank : ℕ → ℕ) (slots : Slots) (at id to : ℕ) → IsRanked above rank → IsInOrder above slots → slot slots at ≡ Some id
    → HoldNoUpper above slots id at to → (k : ℕ) → to ≤ k → passes (λ other. above other id) (slot slots k) ≡ false
none_upper above rank slots at id to ranked order here none k b = false_from_ne_true (passes (λ other. above other id) (slot slots k)) (λ e.
    let p = passes_is (λ other. above other id) (slot slots k) e in
    both_ways _ (none k b (stands_first above rank slots k at p.id id ranked order p.stands here p.passing)) e)

pub up_found : (above : Above) (rank : ℕ → ℕ) (slots : Slots) (free at id to : ℕ) → IsRanked above rank → IsInOrder above slots → slot slots at ≡ Some id
    → HoldNoUpper above slots id at to → free < to - 1 → to ≤ at → at < length slots → passes (λ other. above other id) (slot slots (to - 1)) ≡ true
    → StepsUp above slots free at (Some (to - 1))
up_found above rank slots free at id to ranked order here none behind low inside passing =
    let last = found_last (λ k. passes (λ other. above other id) (slot slots k)) 0 (length slots) (to - 1) (record {
      low = omega arith;
      inside = omega arith;
      passing = passing;
      none_after = λ k a b. none_upper above rank slots at id to ranked order here none k (omega arith);
    }) in
    steps_up_on above rank slots free at id (to - 1) ranked order here last behind

pub up_free : (above : Above) (rank : ℕ → ℕ) (slots : Slots) (free at id to : ℕ) → IsRanked above rank → IsInOrder above slots → slot slots at ≡ Some id
    → HoldNoUpper above slots id at to → to - 1 ≡ free → StopsAbove free (step_up above slots at)
up_free above rank slots free at id to ranked order here none is =
    subst (λ held. StopsAbove free (upper_of_held above slots held)) (sym here) (go (last_upper above slots id) refl)
  where
    go : (found : Option ℕ) → last_upper above slots id ≡ found → StopsAbove free found
    go None e = tt
    go (Some next) e =
        let f = last_slot_is (λ other. above other id) slots next e in
        elim (cases_lt next to) [
          | inl l ↦ omega arith
          | inr m ↦ absurd (both_ways _ (none_upper above rank slots at id to ranked order here none next (omega arith)) f.passing)
        ]

pub up_ended : (above : Above) (rank : ℕ → ℕ) (slots : Slots) (free at id : ℕ) → IsRanked above rank → IsInOrder above slots → slot slots at ≡ Some id
    → (last found : Option ℕ) → last ≡ last_upper above slots id → MatchOption found (StopsAbove free last) (λ next. (last ≡ Some next) × (free < next))
    → StepsUp above slots free at found
up_ended above rank slots free at id ranked order here last None is stops =
    subst (λ held. StopsAbove free (upper_of_held above slots held)) (sym here) (subst (StopsAbove free) is stops)
up_ended above rank slots free at id ranked order here last (Some next) is goes =
    steps_up_on above rank slots free at id next ranked order here (sym is ∙ goes.0) goes.1
