-- Scans of an arrangement: what they find, in words.
use Rattle.std.proofs.Common.{◌≡◌, ℕ, zero, suc, ◌+◌, ◌<◌, ◌≤◌, Bool, true, false, ◌&&◌, Option, None, Some, [], ◌∷◌, length, find, filter, reverse, arith, inl, inr, refl, sym, ◌∙◌, subst, ap}
use Rattle.std.specs.Prelude.{nat_lt, nat_le, is_none}
use Rattle.std.proofs.lemmas.Bool.{cases_Bool, cond-true, cond-false, cases_eq, and_parts, ltb-true, leb-true}
use Rattle.std.proofs.lemmas.List.{reverse-append}
use Rattle.std.proofs.lemmas.List.Folds.{find-append}
use Rattle.std.specs.List.{range_with_len}
use Rattle.std.specs.Option.{option_or}
use Rattle.std.specs.Int.{abs_diff}
use Rattle.slot_order.specs.Order.{slot}
use Rattle.slot_pool.specs.Arrangement.{Slots, is_free, passes, last_slot, nearest, nearer, nearest_free, next_free_above, last_free_below}
use Rattle.slot_pool.proofs.Places.{find_range}

pub record IsLast (test : ℕ → Bool) (from size place : ℕ) : Type 0 where
  pub low : from ≤ place
  pub inside : place < from + size
  pub passing : test place ≡ true
  pub none_after : (j : ℕ) → place < j → j < from + size → test j ≡ false

back : (test : ℕ → Bool) (from size : ℕ)
    → find test (reverse (range_with_len from (suc size))) ≡ option_or (find test (reverse (range_with_len (from + 1) size))) (find test (from ∷ []))
back test from size =
    ap (find test) (reverse-append (from ∷ []) (range_with_len (from + 1) size)) ∙ find-append test (reverse (range_with_len (from + 1) size)) (from ∷ [])

-- an element found last of all or the head
pub find_back_none : (test : ℕ → Bool) (from size : ℕ) → find test (reverse (range_with_len from size)) ≡ None → (j : ℕ) → from ≤ j → j < from + size → test j ≡ false
find_back_none test from zero is j a b = absurd (omega arith)
find_back_none test from (suc size) is j a b =
    go (λ e low high. find_back_none test (from + 1) size e j low high) (find test (reverse (range_with_len (from + 1) size))) refl
  where
    go : (find test (reverse (range_with_len (from + 1) size)) ≡ None → from + 1 ≤ j → j < from + 1 + size → test j ≡ false)
        → (found : Option ℕ) → find test (reverse (range_with_len (from + 1) size)) ≡ found → test j ≡ false
    go later (Some x) e = absurd (let k : Some x ≡ None = ap (λ o. option_or o (find test (from ∷ []))) (sym e) ∙ (sym (back test from size) ∙ is) in cc)
    go later None e = elim (cases_eq from j) [
      | inr other ↦ later e (omega arith) (omega arith)
      | inl same ↦ elim (cases_Bool (test from)) [
        | inr miss ↦ subst (λ n. test n ≡ false) same miss
        | inl hit ↦ absurd (let k : find test (from ∷ []) ≡ None = ap (λ o. option_or o (find test (from ∷ []))) (sym e) ∙ (sym (back test from size) ∙ is) in
            let w : Some from ≡ None = sym (cond-true _ _ _ hit) ∙ k in cc)
      ]
    ]

pub find_back : (test : ℕ → Bool) (from size place : ℕ) → find test (reverse (range_with_len from size)) ≡ Some place → IsLast test from size place
find_back test from zero place is = absurd (cc)
find_back test from (suc size) place is =
    go (find_back test (from + 1) size place) (find test (reverse (range_with_len (from + 1) size))) refl
  where
    rest : (found : Option ℕ) → find test (reverse (range_with_len (from + 1) size)) ≡ found → option_or found (find test (from ∷ [])) ≡ Some place
    rest found e = ap (λ o. option_or o (find test (from ∷ []))) (sym e) ∙ (sym (back test from size) ∙ is)

    go : (find test (reverse (range_with_len (from + 1) size)) ≡ Some place → IsLast test (from + 1) size place)
        → (found : Option ℕ) → find test (reverse (range_with_len (from + 1) size)) ≡ found → IsLast test from (suc size) place
    go later (Some x) e =
        let same : Some x ≡ Some place = rest (Some x) e in
        let h = later (e ∙ same) in
        let low : from + 1 ≤ place = h.low in
        let inside : place < from + 1 + size = h.inside in
        record { low = omega arith; inside = omega arith; passing = h.passing; none_after = λ j a b. h.none_after j a (omega arith) }
    go later None e = elim (cases_Bool (test from)) [
      | inr miss ↦ absurd (let k : find test (from ∷ []) ≡ Some place = rest None e in let w : None ≡ Some place = sym (cond-false _ _ _ miss) ∙ k in cc)
      | inl hit ↦
          let k : find test (from ∷ []) ≡ Some place = rest None e in
          let w : Some from ≡ Some place = sym (cond-true _ _ _ hit) ∙ k in
          let same : from ≡ place = cc in
          record {
            low = omega arith;
            inside = omega arith;
            passing = subst (λ n. test n ≡ true) same hit;
            none_after = λ j a b. find_back_none test (from + 1) size e j (omega arith) (omega arith);
          }
    ]

-- what `last_slot` says, in words
pub last_slot_is : (test : ℕ → Bool) (slots : Slots) (place : ℕ) → last_slot test slots ≡ Some place
    → IsLast (λ at. passes test (slot slots at)) 0 (length slots) place
last_slot_is test slots place is = find_back (λ at. passes test (slot slots at)) 0 (length slots) place is

pub record IsFree (slots : Slots) (place : ℕ) : Type 0 where
  pub inside : place < length slots
  pub free : slot slots place ≡ None

free_is : (slots : Slots) (at : ℕ) → is_free slots at ≡ true → slot slots at ≡ None
free_is slots at e = go (slot slots at) e
  where
    go : (held : Option ℕ) → is_none held ≡ true → held ≡ None
    go None e = refl
    go (Some x) e = absurd (cc)

pub next_free_is : (slots : Slots) (place at : ℕ) → next_free_above slots place ≡ Some at → (place < at) × IsFree slots at
next_free_is slots place at is =
    let h = find_range (λ at. nat_lt place at && is_free slots at) 0 (length slots) at is in
    let p = and_parts (nat_lt place at) (is_free slots at) h.passing in
    let inside : at < 0 + length slots = h.inside in
    (ltb-true place at p.0, record { inside = omega arith; free = free_is slots at p.1 })

pub last_free_is : (slots : Slots) (place at : ℕ) → last_free_below slots place ≡ Some at → (at < place) × IsFree slots at
last_free_is slots place at is =
    let h = find_back (λ at. nat_lt at place && is_free slots at) 0 (length slots) at is in
    let p = and_parts (nat_lt at place) (is_free slots at) h.passing in
    let inside : at < 0 + length slots = h.inside in
    (ltb-true at place p.0, record { inside = omega arith; free = free_is slots at p.1 })

-- the nearest of those that pass is one of them
pub nearest_passes : (mid : ℕ) (test : ℕ → Bool) (from size at : ℕ) → nearest mid (filter test (range_with_len from size)) ≡ Some at → (at < from + size) × (test at ≡ true) × (from ≤ at)
nearest_passes mid test from zero at is = absurd (cc)
nearest_passes mid test from (suc size) at is = elim (cases_Bool (test from)) [
  | inr miss ↦ let h = nearest_passes mid test (from + 1) size at (sym (ap (nearest mid) (cond-false _ _ _ miss)) ∙ is) in
      let b : at < from + 1 + size = h.0 in let a : from + 1 ≤ at = h.2 in (omega arith, h.1, omega arith)
  | inl hit ↦ go (nearest_passes mid test (from + 1) size at) hit (nearest mid (filter test (range_with_len (from + 1) size))) refl (sym (ap (nearest mid) (cond-true _ _ _ hit)) ∙ is)
]
  where
    go : (nearest mid (filter test (range_with_len (from + 1) size)) ≡ Some at → (at < from + 1 + size) × (test at ≡ true) × (from + 1 ≤ at)) → test from ≡ true → (found : Option ℕ) → nearest mid (filter test (range_with_len (from + 1) size)) ≡ found
        → nearer mid from (nearest mid (filter test (range_with_len (from + 1) size))) ≡ Some at → (at < from + suc size) × (test at ≡ true) × (from ≤ at)
    go rest hit None e k = let w : Some from ≡ Some at = sym (ap (nearer mid from) e) ∙ k in let same : from ≡ at = cc in (omega arith, subst (λ n. test n ≡ true) same hit, omega arith)
    go rest hit (Some later) e k =
        elim (cases_Bool (nat_lt (abs_diff later mid) (abs_diff from mid))) [
          | inl y ↦ let w : Some later ≡ Some at = sym (cond-true _ _ _ y) ∙ (sym (ap (nearer mid from) e) ∙ k) in
              let h = rest (e ∙ w) in let b : at < from + 1 + size = h.0 in let a : from + 1 ≤ at = h.2 in (omega arith, h.1, omega arith)
          | inr n ↦ let w : Some from ≡ Some at = sym (cond-false _ _ _ n) ∙ (sym (ap (nearer mid from) e) ∙ k) in let same : from ≡ at = cc in (omega arith, subst (λ n. test n ≡ true) same hit, omega arith)
        ]

pub record IsFreeBetween (slots : Slots) (from to at : ℕ) : Type 0 where
  pub low : from ≤ at
  pub high : at < to
  pub free : IsFree slots at

pub nearest_free_is : (slots : Slots) (from to mid at : ℕ) → nearest_free slots from to mid ≡ Some at → IsFreeBetween slots from to at
nearest_free_is slots from to mid at is =
    let h = nearest_passes mid (λ at. nat_le from at && nat_lt at to && is_free slots at) 0 (length slots) at is in
    let b : at < 0 + length slots = h.0 in
    let p = and_parts (nat_le from at && nat_lt at to) (is_free slots at) h.1 in
    let q = and_parts (nat_le from at) (nat_lt at to) p.0 in
    record { low = leb-true from at q.0; high = ltb-true at to q.1; free = record { inside = omega arith; free = free_is slots at p.1 } }
