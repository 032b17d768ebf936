-- A chain of ids that stand is no longer than there are slots.
use Rattle.std.proofs.Common.{◌≡◌, ℕ, suc, ◌<◌, ◌≤◌, true, false, Some, List, [], ◌∷◌, length, Contains, arith, inl, inr, refl, sym, ◌∙◌, subst, ap}
use Rattle.std.specs.Prelude.{nat_eq}
use Rattle.std.specs.List.{IsDistinct, list_any}
use Rattle.std.proofs.lemmas.Bool.{false_from_ne_true, eqb-true}
use Rattle.std.proofs.lemmas.Map.Keys.{IsDistinct-cons}
use Rattle.std.proofs.lemmas.Map.Steps.{length-le_from_distinct_below}
use Rattle.slot_order.specs.Order.{slot}
use Rattle.slot_order.specs.Chains.{IsChain, BoundsMemberChains}
use Rattle.slot_order.proofs.Lists.{contains_head, contains_tail, contains_cases, contains_none, any_is}
use Rattle.slot_order.proofs.Writes.{slot_inside}
use Rattle.slot_pool.specs.Arrangement.{Slots}
use Rattle.commit_writes.proofs.Filters.{all_members}

chain_rest : (over : ℕ → ℕ → Type 0) (rank : ℕ → ℕ) (id : ℕ) (ids : List ℕ) → IsChain over rank (id ∷ ids) → IsChain over rank ids
chain_rest over rank id [] chain = tt
chain_rest over rank id (next ∷ ids) chain = chain.2

-- the first of a chain is the highest
chain_falls : (over : ℕ → ℕ → Type 0) (rank : ℕ → ℕ) (id : ℕ) (ids : List ℕ) (later : ℕ) → IsChain over rank (id ∷ ids) → Contains ids later → rank later < rank id
chain_falls over rank id [] later chain member = absurd (contains_none later member)
chain_falls over rank id (next ∷ ids) later chain member =
    let less : rank next < rank id = chain.1 in
    elim (contains_cases next later ids member) [
      | inl same ↦ subst (λ z. rank z < rank id) same less
      | inr after ↦ let more : rank later < rank next = chain_falls over rank next ids later chain.2 after in omega arith
    ]

-- slots where some ids stand, a slot for each
record ArePlaces (slots : Slots) (ids : List ℕ) : Type 0 where
  places : List ℕ
  many : length places ≡ length ids
  apart : IsDistinct nat_eq places
  taken : (place : ℕ) → Contains places place → (id : ℕ) × Contains ids id × (slot slots place ≡ Some id)

places_none : (slots : Slots) → ArePlaces slots []
unfolding IsDistinct
places_none slots = record { places = []; many = refl; apart = tt; taken = λ place none. absurd (contains_none place none) }

-- one more id in front, above them
places_more : (over : ℕ → ℕ → Type 0) (rank : ℕ → ℕ) (slots : Slots) (id : ℕ) (ids : List ℕ) → IsChain over rank (id ∷ ids)
    → (at : ℕ) × (slot slots at ≡ Some id) → ArePlaces slots ids → ArePlaces slots (id ∷ ids)
places_more over rank slots id ids chain here rest = record {
  places = here.0 ∷ rest.places;
  many = ap suc rest.many;
  apart = IsDistinct-cons nat_eq here.0 rest.places (all_members (λ place. nat_eq here.0 place ≡ false) rest.places apart) rest.apart;
  taken = λ place member. elim (contains_cases here.0 place rest.places member) [
    | inl same ↦ (id, contains_head id ids, subst (λ at. slot slots at ≡ Some id) same here.1)
    | inr later ↦ let w = rest.taken place later in (w.0, contains_tail id w.0 ids w.1, w.2)
  ];
}
  where
    apart : (place : ℕ) → Contains rest.places place → nat_eq here.0 place ≡ false
    apart place member = false_from_ne_true (nat_eq here.0 place) (λ same.
        let w = rest.taken place member in
        let one : Some id ≡ Some w.0 = sym here.1 ∙ (ap (slot slots) (eqb-true here.0 place same) ∙ w.2) in
        let is : id ≡ w.0 = cc in
        let less : rank w.0 < rank id = chain_falls over rank id ids w.0 chain w.1 in
        let even : rank id ≡ rank w.0 = ap rank is in
        omega arith)

places_of : (over : ℕ → ℕ → Type 0) (rank : ℕ → ℕ) (slots : Slots) (ids : List ℕ) → IsChain over rank ids
    → ((id : ℕ) → Contains ids id → (at : ℕ) × (slot slots at ≡ Some id)) → ArePlaces slots ids
places_of over rank slots [] chain stands = places_none slots
places_of over rank slots (id ∷ ids) chain stands =
    places_more over rank slots id ids chain (stands id (contains_head id ids))
    (places_of over rank slots ids (chain_rest over rank id ids chain) (λ other member. stands other (contains_tail id other ids member)))

pub standing_bound : (over : ℕ → ℕ → Type 0) (rank : ℕ → ℕ) (Standing : ℕ → Type 0) (slots : Slots)
    → ((id : ℕ) → Standing id → (at : ℕ) × (slot slots at ≡ Some id)) → BoundsMemberChains over rank Standing (length slots)
standing_bound over rank Standing slots placed ids standing chain =
    let w = places_of over rank slots ids chain (λ id member. placed id (standing id member)) in
    let few : length w.places ≤ length slots = length-le_from_distinct_below w.places (length slots) w.apart (inside w) in
    let many : length w.places ≡ length ids = w.many in
    omega arith
  where
    inside : (w : ArePlaces slots ids) (place : ℕ) → list_any (nat_eq place) w.places ≡ true → place < length slots
    inside w place is =
        let found = any_is (nat_eq place) w.places is in
        let at = w.taken found.0 found.1 in
        subst (λ z. z < length slots) (sym (eqb-true place found.0 found.2)) (slot_inside slots found.0 at.0 at.2)
