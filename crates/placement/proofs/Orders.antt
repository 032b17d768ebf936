-- Who stands before whom, from the order of an arrangement alone.
use Rattle.std.proofs.Common.{◌≡◌, ℕ, ◌<◌, true, Some, arith, inl, inr, sym, ◌∙◌, ap}
use Rattle.std.proofs.lemmas.Bool.{cases_lt, cases_eq, both_ways}
use Rattle.slot_order.specs.Order.{slot}
use Rattle.slot_pool.specs.Arrangement.{Slots}
use Rattle.slot_pool.proofs.Places.{first_slot_is}
use Rattle.slot_pool.proofs.Scan.{last_slot_is}
use Rattle.placement.specs.Live.{LivePieces, AreApart, is_above, rank_in}
use Rattle.placement.proofs.Above.{ranks_fall}
use Rattle.placement.specs.Placement.{Above, first_lower, last_upper, lower_of_held, upper_of_held, IsInOrder}
use Rattle.placement.specs.Ready.{IsTaken, StepsDown, StepsUp}
use Rattle.placement.proofs.Chain.{passes_is}
use Rattle.placement.proofs.Planner.{IsRanked}

-- ranks fall among live ids
pub ranked : (index : LivePieces) → AreApart index.slots index.live → IsRanked (is_above index.live) (rank_in index.live)
ranked index apart a b e = ranks_fall index.live apart.once a b e

-- an id stands before each one that it is above
pub stands_first : (above : Above) (rank : ℕ → ℕ) (slots : Slots) (i j a b : ℕ) → IsRanked above rank → IsInOrder above slots
    → slot slots i ≡ Some a → slot slots j ≡ Some b → above a b ≡ true → i < j
stands_first above rank slots i j a b ranked order here there e = elim (cases_lt i j) [
  | inl l ↦ l
  | inr m ↦ elim (cases_eq i j) [
    | inr n ↦ absurd (both_ways (above a b) (order j i b a (omega arith) there here) e)
    | inl same ↦ absurd (
        let k : Some a ≡ Some b = sym here ∙ (ap (slot slots) same ∙ there) in
        let z : a ≡ b = cc in
        let l = ranked a b e in
        let r : rank a ≡ rank b = ap rank z in
        omega arith
        )
  ]
]

-- the first lower id of the one in a slot stands after it
pub lower_after : (above : Above) (rank : ℕ → ℕ) (slots : Slots) (at id next : ℕ) → IsRanked above rank → IsInOrder above slots
    → slot slots at ≡ Some id → first_lower above slots id ≡ Some next → (at < next) × IsTaken slots next
lower_after above rank slots at id next ranked order here is =
    let h = first_slot_is (λ other. above id other) slots next is in
    let p = passes_is (λ other. above id other) (slot slots next) h.passing in
    (stands_first above rank slots at next id p.id ranked order here p.stands p.passing, (p.id, p.stands))

pub upper_before : (above : Above) (rank : ℕ → ℕ) (slots : Slots) (at id next : ℕ) → IsRanked above rank → IsInOrder above slots
    → slot slots at ≡ Some id → last_upper above slots id ≡ Some next → (next < at) × IsTaken slots next
upper_before above rank slots at id next ranked order here is =
    let h = last_slot_is (λ other. above other id) slots next is in
    let p = passes_is (λ other. above other id) (slot slots next) h.passing in
    (stands_first above rank slots next at p.id id ranked order p.stands here p.passing, (p.id, p.stands))

-- the step of a down chain, as it was looked for
pub steps_down_on : (above : Above) (rank : ℕ → ℕ) (slots : Slots) (free at id next : ℕ) → IsRanked above rank → IsInOrder above slots
    → slot slots at ≡ Some id → first_lower above slots id ≡ Some next → next < free → StepsDown above slots free at (Some next)
steps_down_on above rank slots free at id next ranked order here is before =
    let w = lower_after above rank slots at id next ranked order here is in
    (ap (lower_of_held above slots) here ∙ is, w.0, before, w.1)

pub steps_up_on : (above : Above) (rank : ℕ → ℕ) (slots : Slots) (free at id next : ℕ) → IsRanked above rank → IsInOrder above slots
    → slot slots at ≡ Some id → last_upper above slots id ≡ Some next → free < next → StepsUp above slots free at (Some next)
steps_up_on above rank slots free at id next ranked order here is before =
    let w = upper_before above rank slots at id next ranked order here is in
    (ap (upper_of_held above slots) here ∙ is, w.0, before, w.1)
