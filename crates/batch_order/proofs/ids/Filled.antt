-- The ids in an arrangement: each once, and as many as there are slots that aren't empty.
use Rattle.std.proofs.Common.{◌≡◌, ℕ, suc, zero, ◌+◌, ◌≤◌, Option, Some, None, List, [], ◌∷◌, Contains, false, length, inl, inr, ap, subst, arith, eqb-true}
use Rattle.std.specs.Prelude.{is_none, nat_eq}
use Rattle.std.specs.List.{IsDistinct}
use Rattle.std.proofs.lemmas.Bool.{false_from_ne_true}
use Rattle.std.proofs.lemmas.List.Sums.{count_by-le-length}
use Rattle.rule_store.proofs.Counts.{count_by-cons}
use Rattle.slot_order.specs.Order.{slot}
use Rattle.slot_order.proofs.Lists.{contains_cases, contains_head, contains_tail, contains_none}
use Rattle.slot_pool.specs.Arrangement.{Slots}
use Rattle.placement.specs.Insertion.{free_slots}
use Rattle.commit_writes.proofs.Filters.{all_members}

abbrev pub ids_in : Slots → List ℕ
ids_in [] = []
ids_in (None ∷ slots) = ids_in slots
ids_in (Some id ∷ slots) = id ∷ ids_in slots

-- each stands in a slot,
pub in_slot : (slots : Slots) (id : ℕ) → Contains (ids_in slots) id → (at : ℕ) × (slot slots at ≡ Some id)
in_slot [] id member = absurd (contains_none id member)
in_slot (None ∷ slots) id member = let w = in_slot slots id member in (suc w.0, w.1)
in_slot (Some first ∷ slots) id member = elim (contains_cases first id (ids_in slots) member) [
  | inl same ↦ (zero, ap (λ (n : ℕ). Some n) same)
  | inr later ↦ let w = in_slot slots id later in (suc w.0, w.1)
]

-- and what stands in one is one of them
pub of_slot : (slots : Slots) (at id : ℕ) → slot slots at ≡ Some id → Contains (ids_in slots) id
of_slot [] at id here = absurd (let clash : None ≡ Some id = here in cc)
of_slot (None ∷ slots) zero id here = absurd (let clash : None ≡ Some id = here in cc)
of_slot (None ∷ slots) (suc at) id here = of_slot slots at id here
of_slot (Some first ∷ slots) zero id here = subst (Contains (first ∷ ids_in slots)) (let same : first ≡ id = (let both : Some first ≡ Some id = here in cc) in same) (contains_head first (ids_in slots))
of_slot (Some first ∷ slots) (suc at) id here = contains_tail first id (ids_in slots) (of_slot slots at id here)

-- where no id stands in two slots
pub ids_once : (slots : Slots) → ((i j id : ℕ) → slot slots i ≡ Some id → slot slots j ≡ Some id → i ≡ j) → IsDistinct nat_eq (ids_in slots)
unfolding IsDistinct
ids_once [] once = tt
ids_once (None ∷ slots) once = ids_once slots (λ i j id here there. let both : suc i ≡ suc j = once (suc i) (suc j) id here there in omega arith)
ids_once (Some first ∷ slots) once = (
  all_members (λ other. nat_eq first other ≡ false) (ids_in slots) (λ other member. false_from_ne_true (nat_eq first other) (λ same.
      let w = in_slot slots other member in
      let both : zero ≡ suc w.0 = once zero (suc w.0) other (ap (λ (n : ℕ). Some n) (eqb-true first other same)) w.1 in
      absurd (omega arith))),
  ids_once slots (λ i j id here there. let both : suc i ≡ suc j = once (suc i) (suc j) id here there in omega arith),
)

-- the other slots are free
pub filled_count : (slots : Slots) → free_slots slots + length (ids_in slots) ≡ length slots
filled_count [] = (let none : free_slots [] ≤ 0 = count_by-le-length (λ (held : Option ℕ). is_none held) [] in omega arith)
filled_count (None ∷ slots) =
    let more : free_slots (None ∷ slots) ≡ 1 + free_slots slots = count_by-cons (λ (held : Option ℕ). is_none held) None slots in
    let rest = filled_count slots in omega arith
filled_count (Some id ∷ slots) =
    let same : free_slots (Some id ∷ slots) ≡ 0 + free_slots slots = count_by-cons (λ (held : Option ℕ). is_none held) (Some id) slots in
    let rest = filled_count slots in omega arith
