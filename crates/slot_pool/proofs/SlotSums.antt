-- The sum of the slots that hold an id, as one of them changes.
use Rattle.std.proofs.Common.{◌≡◌, ◌≢◌, ℕ, true, zero, suc, ◌+◌, ◌-◌, ◌*◌, ◌^◌, ◌<◌, ◌≤◌, ◌==◌, Option, None, Some, List, [], ◌∷◌, length, replicate, set, length-set, inl, inr, arith, refl, sym, ◌∙◌, ap}
use Rattle.std.specs.Prelude.{cond, slice_index_or}
use Rattle.std.proofs.lemmas.Bool.{cases_eq, eq-eqb, eqb-true, false_from_ne_true}
use Rattle.std.proofs.lemmas.List.{get_or-replicate, get_or-set_other, get_or-set_same, length-replicate}
use Rattle.slot_order.specs.Order.{slot, most_slots}
use Rattle.slot_pool.specs.Arrangement.{Slots, passes}
use Rattle.slot_pool.specs.Homes.{AreSums, IsFirstOf, place_of, sum_from, sum_of}

place_same : (id at : ℕ) → place_of id at (Some id) ≡ at
place_same id at = ap (λ b. cond b at 0) (eq-eqb id id refl)

place_other : (id other at : ℕ) → other ≢ id → place_of id at (Some other) ≡ 0
place_other id other at apart = ap (λ b. cond b at 0) (false_from_ne_true (other == id) (λ same. apart (eqb-true other id same)))

-- what passes the test for an id is that id
pub passes_is : (held : Option ℕ) (id : ℕ) → passes (λ x. x == id) held ≡ true → held ≡ Some id
passes_is None id is = absurd (cc)
passes_is (Some other) id is = ap (λ (n : ℕ). Some n) (eqb-true other id is)

-- no place counts for more than it is
place_most : (id at : ℕ) (held : Option ℕ) → place_of id at held ≤ at
place_most id at None = omega arith
place_most id at (Some other) = elim (cases_eq other id) [
  | inl same ↦ let e : place_of id at (Some other) ≡ at = ap (λ n. place_of id at (Some n)) same ∙ place_same id at in omega arith
  | inr apart ↦ let e = place_other id other at apart in omega arith
]

-- the sum before and after one slot changes
changed : (id from : ℕ) (slots : Slots) (at : ℕ) (held : Option ℕ) → at < length slots
    → sum_from id from (set slots at held) + place_of id (from + at) (slot slots at) ≡ sum_from id from slots + place_of id (from + at) held
changed id from [] at held inside = absurd (omega arith)
changed id from (first ∷ slots) zero held inside =
    let none : from + 0 ≡ from = omega arith in
    let now = ap (λ n. place_of id n first) none in
    let then = ap (λ n. place_of id n held) none in
    omega arith
changed id from (first ∷ slots) (suc at) held inside =
    let rest = changed id (suc from) slots at held (omega arith) in
    let next : suc from + at ≡ from + suc at = omega arith in
    let now = ap (λ n. place_of id n (slot slots at)) next in
    let then = ap (λ n. place_of id n held) next in
    omega arith

-- a slot that holds the id is in its sum, and so are two
in_sum : (id from : ℕ) (slots : Slots) (at : ℕ) → slot slots at ≡ Some id → from + at ≤ sum_from id from slots
in_sum id from [] at holds = absurd (cc)
in_sum id from (first ∷ slots) zero holds =
    let here : place_of id from first ≡ from = ap (place_of id from) holds ∙ place_same id from in omega arith
in_sum id from (first ∷ slots) (suc at) holds = let rest = in_sum id (suc from) slots at holds in omega arith

two_in_sum : (id from : ℕ) (slots : Slots) (at other : ℕ) → at < other → slot slots at ≡ Some id → slot slots other ≡ Some id → (from + at) + (from + other) ≤ sum_from id from slots
two_in_sum id from [] at other less holds also = absurd (cc)
two_in_sum id from (first ∷ slots) at zero less holds also = absurd (omega arith)
two_in_sum id from (first ∷ slots) zero (suc other) less holds also =
    let here : place_of id from first ≡ from = ap (place_of id from) holds ∙ place_same id from in
    let rest = in_sum id (suc from) slots other also in omega arith
two_in_sum id from (first ∷ slots) (suc at) (suc other) less holds also = let rest = two_in_sum id (suc from) slots at other (omega arith) holds also in omega arith

-- with no sum no slot but the first can hold it,
pub no_other : (slots : Slots) (at id : ℕ) → 0 ≡ sum_of slots id → IsFirstOf slots (at + 1) id None
no_other slots at id none = λ k from holds. let one = in_sum id 0 slots k holds in absurd (omega arith)

-- and where the sum is a slot that does, no other one does behind the first
pub only_other : (slots : Slots) (at id sum : ℕ) → sum ≡ sum_of slots id → at < sum → slot slots sum ≡ Some id → IsFirstOf slots (at + 1) id (Some sum)
only_other slots at id sum is past holds =
    (omega arith, holds, λ k from before also. let two = two_in_sum id 0 slots k sum before also holds in absurd (omega arith))

-- sums of few slots are small
small_from : (id from : ℕ) (slots : Slots) → from + length slots ≤ most_slots → sum_from id from slots ≤ most_slots * length slots
small_from id from [] few = omega arith
small_from id from (first ∷ slots) few =
    let here = place_most id from first in
    let rest = small_from id (suc from) slots (omega arith) in
    omega arith

pub sums_few : (slots : Slots) (at id : ℕ) → length slots ≤ most_slots → at < length slots → slot slots at ≡ None → sum_of slots id + at < 2 ^ 64
sums_few slots at id few inside free =
    let e = changed id 0 slots at (Some id) inside in
    let f : place_of id (0 + at) (slot slots at) ≡ 0 = ap (place_of id (0 + at)) free in
    let g = place_same id (0 + at) in
    let size = length-set slots at (Some id) in
    let most = small_from id 0 (set slots at (Some id)) (omega arith) in
    omega arith

-- so a slot that an id is put into is added to its sum, if it has one, and one that is emptied is taken away
pub added : (slots : Slots) (sums : List ℕ) (at id : ℕ) → AreSums slots sums → at < length slots → slot slots at ≡ None → id < length sums
    → AreSums (set slots at (Some id)) (set sums id (slice_index_or sums id 0 + at))
added slots sums at id are inside free known = record {
  size = length-set sums id (slice_index_or sums id 0 + at) ∙ are.size ∙ sym (length-set slots at (Some id));
  each = λ other within.
      let long = length-set slots at (Some id) in
      let size = are.size in
      let was = are.each other (omega arith) in
      let e = changed other 0 slots at (Some id) inside in
      let f : place_of other (0 + at) (slot slots at) ≡ 0 = ap (place_of other (0 + at)) free in
      elim (cases_eq other id) [
        | inl same ↦
            let here : slice_index_or (set sums id (slice_index_or sums id 0 + at)) other 0 ≡ slice_index_or sums id 0 + at =
            ap (λ n. slice_index_or (set sums id (slice_index_or sums id 0 + at)) n 0) same ∙ get_or-set_same sums id (slice_index_or sums id 0 + at) 0 known in
            let g : place_of other (0 + at) (Some id) ≡ 0 + at = ap (λ n. place_of n (0 + at) (Some id)) same ∙ place_same id (0 + at) in
            let h : slice_index_or sums other 0 ≡ slice_index_or sums id 0 = ap (λ n. slice_index_or sums n 0) same in
            omega arith
        | inr apart ↦
            let here = get_or-set_other sums id other (slice_index_or sums id 0 + at) 0 apart in
            let g = place_other other id (0 + at) (λ same. apart (sym same)) in
            here ∙ (was ∙ (let k : sum_of slots other ≡ sum_of (set slots at (Some id)) other = omega arith in k))
      ];
}

pub beyond : (slots : Slots) (sums : List ℕ) (at id : ℕ) → AreSums slots sums → at < length slots → slot slots at ≡ None → length sums ≤ id → AreSums (set slots at (Some id)) sums
beyond slots sums at id are inside free past = record {
  size = are.size ∙ sym (length-set slots at (Some id));
  each = λ other within.
      let long = length-set slots at (Some id) in
      let size = are.size in
      let was = are.each other (omega arith) in
      let e = changed other 0 slots at (Some id) inside in
      let f : place_of other (0 + at) (slot slots at) ≡ 0 = ap (place_of other (0 + at)) free in
      let g = place_other other id (0 + at) (λ same. let bound : id < length sums = omega arith in absurd (omega arith)) in
      was ∙ (let k : sum_of slots other ≡ sum_of (set slots at (Some id)) other = omega arith in k);
}

pub sum_holds : (slots : Slots) (sums : List ℕ) (at id : ℕ) → AreSums slots sums → slot slots at ≡ Some id → id < length sums → at ≤ slice_index_or sums id 0
sum_holds slots sums at id are held known =
    let size = are.size in
    let was = are.each id (omega arith) in
    let one = in_sum id 0 slots at held in
    omega arith

pub taken : (slots : Slots) (sums : List ℕ) (at id : ℕ) → AreSums slots sums → at < length slots → slot slots at ≡ Some id → id < length sums
    → AreSums (set slots at None) (set sums id (slice_index_or sums id 0 - at))
taken slots sums at id are inside held known = record {
  size = length-set sums id (slice_index_or sums id 0 - at) ∙ are.size ∙ sym (length-set slots at None);
  each = λ other within.
      let long = length-set slots at None in
      let size = are.size in
      let was = are.each other (omega arith) in
      let e = changed other 0 slots at None inside in
      elim (cases_eq other id) [
        | inl same ↦
            let here : slice_index_or (set sums id (slice_index_or sums id 0 - at)) other 0 ≡ slice_index_or sums id 0 - at =
            ap (λ n. slice_index_or (set sums id (slice_index_or sums id 0 - at)) n 0) same ∙ get_or-set_same sums id (slice_index_or sums id 0 - at) 0 known in
            let f : place_of other (0 + at) (slot slots at) ≡ 0 + at = ap (place_of other (0 + at)) held ∙ (ap (λ n. place_of n (0 + at) (Some id)) same ∙ place_same id (0 + at)) in
            let h : slice_index_or sums other 0 ≡ slice_index_or sums id 0 = ap (λ n. slice_index_or sums n 0) same in
            omega arith
        | inr apart ↦
            let here = get_or-set_other sums id other (slice_index_or sums id 0 - at) 0 apart in
            let f : place_of other (0 + at) (slot slots at) ≡ 0 = ap (place_of other (0 + at)) held ∙ place_other other id (0 + at) (λ same. apart (sym same)) in
            here ∙ (was ∙ (let k : sum_of slots other ≡ sum_of (set slots at None) other = omega arith in k))
      ];
}

pub beyond_taken : (slots : Slots) (sums : List ℕ) (at id : ℕ) → AreSums slots sums → at < length slots → slot slots at ≡ Some id → length sums ≤ id → AreSums (set slots at None) sums
beyond_taken slots sums at id are inside held past = record {
  size = are.size ∙ sym (length-set slots at None);
  each = λ other within.
      let long = length-set slots at None in
      let size = are.size in
      let was = are.each other (omega arith) in
      let e = changed other 0 slots at None inside in
      let f : place_of other (0 + at) (slot slots at) ≡ 0 = ap (place_of other (0 + at)) held ∙ place_other other id (0 + at) (λ same. absurd (omega arith)) in
      was ∙ (let k : sum_of slots other ≡ sum_of (set slots at None) other = omega arith in k);
}

-- nothing is taken away where nothing stood
pub none_taken : (slots : Slots) (sums : List ℕ) (at : ℕ) → AreSums slots sums → at < length slots → slot slots at ≡ None → AreSums (set slots at None) sums
none_taken slots sums at are inside free = record {
  size = are.size ∙ sym (length-set slots at None);
  each = λ other within.
      let long = length-set slots at None in
      let was = are.each other (omega arith) in
      let e = changed other 0 slots at None inside in
      let f : place_of other (0 + at) (slot slots at) ≡ 0 = ap (place_of other (0 + at)) free in
      was ∙ (let k : sum_of slots other ≡ sum_of (set slots at None) other = omega arith in k);
}

-- nothing stands yet
pub sums_none : (n : ℕ) → AreSums (replicate n None) (replicate n 0)
sums_none n = record {
  size = length-replicate n 0 ∙ sym (length-replicate n None);
  each = λ id inside. get_or-replicate n id 0 0 (let l : length (replicate {A = Option ℕ} n None) ≡ n = length-replicate n None in omega arith) ∙ sym (none id 0 n);
}
  where
    none : (id from n : ℕ) → sum_from id from (replicate n None) ≡ 0
    none id from zero = refl
    none id from (suc n) = let rest = none id (suc from) n in omega arith
