-- What is kept of the live ranges of a field: 16 bits, right ranges, and no range with two bits.
use Rattle.std.proofs.Common.{◌≡◌, ◌≢◌, ℕ, ◌+◌, ◌<◌, ◌≤◌, true, false, ◌==◌, Option, Some, None, is_none, is_some, cond, IsSome, IfSome, List, [], ◌∷◌, Contains, length, get_or, set, ◌⊎◌, inl, inr, refl, ap, sym, ◌∙◌, subst, arith, eq-eqb, eqb-true}
use Rattle.std.proofs.lemmas.Bool.{cases_lt, cases_eq, and_parts, and_from, both_ways, false_from_ne_true}
use Rattle.std.proofs.lemmas.List.{length-set, get_or-replicate, get_or-set_same, get_or-set_other, get_or_past, get_or_default}
use Rattle.std.proofs.lemmas.List.Sums.{sum_by-set}
use Rattle.std.proofs.lemmas.List.Quantifiers.{position-Some}
use Rattle.slot_order.proofs.Lists.{position_found, position_none, contains_cases, contains_none}
use Rattle.rule_model.specs.PortRange.{PortRange, IsPortRange, same_range}
use Rattle.range_bits.specs.LiveRanges.{LiveRanges, no_ranges, is_range, bit_of, free_bit, range_at}
use Rattle.range_bits.specs.FieldMap.{IsFieldMap, live_count}
use Rattle.range_bits.proofs.Places.{fails_everywhere, free-none, no_count}

-- the test for a range
pub same_range-is : (a b : PortRange) → same_range a b ≡ true → a ≡ b
same_range-is a b same =
    let parts = and_parts (a.lo == b.lo) (a.hi == b.hi) same in
    let low = eqb-true _ _ parts.0 in
    let high = eqb-true _ _ parts.1 in
    ap (λ (n : ℕ). let r : PortRange = record { lo = n; hi = a.hi } in r) low ∙ ap (λ (n : ℕ). let r : PortRange = record { lo = b.lo; hi = n } in r) high

pub same_range-self : (a : PortRange) → same_range a a ≡ true
same_range-self a = and_from _ _ (eq-eqb a.lo a.lo refl) (eq-eqb a.hi a.hi refl)

pub is_range-is : (range : PortRange) (held : Option PortRange) → is_range range held ≡ true → held ≡ Some range
is_range-is range None is = absurd (cc)
is_range-is range (Some other) is = ap Some (same_range-is other range is)

pub is_range-at : (range : PortRange) (held : Option PortRange) → held ≡ Some range → is_range range held ≡ true
is_range-at range held is = subst (λ (h : Option PortRange). is_range range h ≡ true) (sym is) (same_range-self range)

pub is_range-other : (range : PortRange) (held : Option PortRange) → held ≢ Some range → is_range range held ≡ false
is_range-other range held other = false_from_ne_true _ (λ is. other (is_range-is range held is))

-- past the last bit none is live
pub live_inside : (live : LiveRanges) (bit : ℕ) (range : PortRange) → range_at live bit ≡ Some range → bit < length live
live_inside live bit range held =
    elim (cases_lt bit (length live)) [
      | inl inside ↦ inside
      | inr past ↦ absurd (let none = get_or_past live bit None past in cc)
    ]

-- a range without a bit isn't live
pub not_live : (live : LiveRanges) (range : PortRange) → bit_of live range ≡ None → (bit : ℕ) → range_at live bit ≢ Some range
not_live live range none bit held =
    both_ways _ (fails_everywhere (is_range range) live bit None none (live_inside live bit range held)) (is_range-at range (range_at live bit) held)

pub bit_of-none : (live : LiveRanges) (range : PortRange) → ((bit : ℕ) → range_at live bit ≢ Some range) → bit_of live range ≡ None
bit_of-none live range none = position_none (is_range range) live None (λ bit inside. is_range-other range (range_at live bit) (none bit))

-- the walk over the bits finds a range
pub found_range : (ranges live : LiveRanges) (bit : ℕ) (range : PortRange) → ranges ≡ live → bit < length ranges
    → ((k : ℕ) → k < bit → is_range range (range_at ranges k) ≡ false) → range_at live bit ≡ Some range → Some bit ≡ bit_of live range
found_range ranges live bit range same inside before held =
    let here : range_at ranges bit ≡ Some range = ap (λ (l : LiveRanges). range_at l bit) same ∙ held in
    sym (ap (λ (l : LiveRanges). bit_of l range) (sym same) ∙ position_found (is_range range) ranges bit None inside before (is_range-at range (range_at ranges bit) here))

pub no_range : (bit : ℕ) → range_at no_ranges bit ≡ None
no_range bit =
    elim (cases_lt bit 16) [
      | inl inside ↦ get_or-replicate 16 bit None None inside
      | inr past ↦ get_or_past no_ranges bit None past
    ]

pub IsFieldMap-no_ranges : IsFieldMap no_ranges
IsFieldMap-no_ranges = record {
  places = refl;
  right = λ bit range held. absurd (let none = no_range bit in cc);
  one_bit = λ a b range held also. absurd (let none = no_range a in cc);
}

-- a bit is freed
freed_at : (live : LiveRanges) (freed bit : ℕ) (range : PortRange) → range_at (set live freed None) bit ≡ Some range → range_at live bit ≡ Some range
freed_at live freed bit range held =
    elim (cases_eq bit freed) [
      | inl same ↦ absurd (let inside : bit < length (set live freed None) = live_inside (set live freed None) bit range held in
          let size = length-set live freed None in
          let none : range_at (set live freed None) freed ≡ None = get_or-set_same live freed None None (omega arith) in
          let here : range_at (set live freed None) freed ≡ range_at (set live freed None) bit = ap (range_at (set live freed None)) (sym same) in
          cc)
      | inr other ↦ sym (get_or-set_other live freed bit None None other) ∙ held
    ]

pub IsFieldMap-freed : (live : LiveRanges) (bit : ℕ) → IsFieldMap live → IsFieldMap (set live bit None)
IsFieldMap-freed live bit is = record {
  places = length-set live bit None ∙ is.places;
  right = λ at range held. is.right at range (freed_at live bit at range held);
  one_bit = λ a b range held also. is.one_bit a b range (freed_at live bit a range held) (freed_at live bit b range also);
}

-- a bit is given to a range that isn't live
pub given_at : (live : LiveRanges) (given bit : ℕ) (new range : PortRange) → given < length live → range_at (set live given (Some new)) bit ≡ Some range
    → ((bit ≡ given) × (range ≡ new)) ⊎ ((bit ≢ given) × (range_at live bit ≡ Some range))
given_at live given bit new range inside held =
    elim (cases_eq bit given) [
      | inl same ↦ inl (
        same,
        (let now : range_at (set live given (Some new)) given ≡ Some new = get_or-set_same live given (Some new) None inside in
            let here : range_at (set live given (Some new)) given ≡ range_at (set live given (Some new)) bit = ap (range_at (set live given (Some new))) (sym same) in
            cc),
      )
      | inr other ↦ inr (other, sym (get_or-set_other live given bit (Some new) None other) ∙ held)
    ]

pub IsFieldMap-given : (live : LiveRanges) (bit : ℕ) (new : PortRange) → IsFieldMap live → IsPortRange new → bit_of live new ≡ None → bit < 16 → IsFieldMap (set live bit (Some new))
IsFieldMap-given live bit new is right none small = record {
  places = length-set live bit (Some new) ∙ is.places;
  right = λ at range held. elim (given_at live bit at new range inside held) [
    | inl e ↦ subst IsPortRange (sym e.1) right
    | inr e ↦ is.right at range e.1
  ];
  one_bit = λ a b range held also. elim (given_at live bit a new range inside held) [
    | inl e ↦ elim (given_at live bit b new range inside also) [
      | inl f ↦ e.0 ∙ sym f.0
      | inr f ↦ absurd (not_live live new none b (f.1 ∙ ap Some e.1))
    ]
    | inr e ↦ elim (given_at live bit b new range inside also) [
      | inl f ↦ absurd (not_live live new none a (e.1 ∙ ap Some f.1))
      | inr f ↦ is.one_bit a b range e.1 f.1
    ]
  ];
}
  where
    inside : bit < length live
    inside = let size = is.places in omega arith

-- the range at a bit is right
pub right_at : (live : LiveRanges) (bit : ℕ) (held : Option PortRange) → IsFieldMap live → bit < 16 → IfSome (get_or live bit held) (λ range. IsPortRange range)
right_at live bit held is small =
    let size = is.places in
    subst (λ (h : Option PortRange). IfSome h (λ range. IsPortRange range)) (get_or_default live bit None held (omega arith)) (go (range_at live bit) refl)
  where
    go : (found : Option PortRange) → range_at live bit ≡ found → IfSome found (λ range. IsPortRange range)
    go None e = tt
    go (Some range) e = is.right bit range e

-- the least free bit
pub record IsLeastFree (live : LiveRanges) (bit : ℕ) : Type 0 where
  pub small : bit < 16
  pub free : range_at live bit ≡ None
  pub least : (lower : ℕ) → lower < bit → IsSome (range_at live lower)

pub least_free : (live : LiveRanges) (bit : ℕ) → IsFieldMap live → Some bit ≡ free_bit live → IsLeastFree live bit
least_free live bit is found =
    let parts = position-Some is_none live bit None (sym found) in
    let size = is.places in
    record {
      small = let inside = parts.0 in omega arith;
      free = none_from (range_at live bit) parts.1;
      least = λ lower below. some_from (range_at live lower) (parts.2 lower below);
    }
  where
    none_from : (held : Option PortRange) → is_none held ≡ true → held ≡ None
    none_from None none = refl
    none_from (Some range) none = absurd (cc)

    some_from : (held : Option PortRange) → is_none held ≡ false → IsSome held
    some_from None some = absurd (cc)
    some_from (Some range) some = refl

pub not_full : (live : LiveRanges) (bit : ℕ) → IsFieldMap live → Some bit ≡ free_bit live → live_count live ≡ 16 → ⊥
not_full live bit is found count = let none = (free-none live).1 (count ∙ sym is.places) in cc

pub is_full : (live : LiveRanges) → IsFieldMap live → None ≡ free_bit live → live_count live ≡ 16
is_full live is none = (free-none live).0 (sym none) ∙ is.places

-- one range more is live
pub live_count-given : (live : LiveRanges) (bit : ℕ) (range : PortRange) → range_at live bit ≡ None → bit < length live
    → live_count (set live bit (Some range)) ≡ live_count live + 1
live_count-given live bit range free inside =
    let sums : live_count (set live bit (Some range)) + cond {A = ℕ} (is_some (range_at live bit)) 1 0 ≡ live_count live + 1 =
    sum_by-set (λ held. cond (is_some held) 1 0) live bit (Some range) None inside in
    let none : cond {A = ℕ} (is_some (range_at live bit)) 1 0 ≡ 0 = ap (λ (h : Option PortRange). cond {A = ℕ} (is_some h) 1 0) free in
    omega arith

-- and one fewer
pub live_count-freed : (live : LiveRanges) (bit : ℕ) (range : PortRange) → range_at live bit ≡ Some range → live_count (set live bit None) + 1 ≡ live_count live
live_count-freed live bit range held =
    let sums : live_count (set live bit None) + cond {A = ℕ} (is_some (range_at live bit)) 1 0 ≡ live_count live + 0 =
    sum_by-set (λ held. cond (is_some held) 1 0) live bit None None (live_inside live bit range held) in
    let one : cond {A = ℕ} (is_some (range_at live bit)) 1 0 ≡ 1 = ap (λ (h : Option PortRange). cond {A = ℕ} (is_some h) 1 0) held in
    omega arith

-- a range is live, or has no bit
cases_live : (live : LiveRanges) (range : PortRange) → (bit_of live range ≡ None) ⊎ ((bit : ℕ) × (range_at live bit ≡ Some range))
cases_live live range = go (bit_of live range) refl
  where
    go : (found : Option ℕ) → bit_of live range ≡ found → (bit_of live range ≡ None) ⊎ ((bit : ℕ) × (range_at live bit ≡ Some range))
    go None e = inl e
    go (Some bit) e = inr (bit, is_range-is range (range_at live bit) (position-Some (is_range range) live bit None e).1)

-- no more ranges are live than a list has that each live one stands in
pub live_count-within : (live : LiveRanges) (ranges : List PortRange) → IsFieldMap live → ((bit : ℕ) (range : PortRange) → range_at live bit ≡ Some range → Contains ranges range)
    → live_count live ≤ length ranges
live_count-within live [] is within = let none = no_count live (λ bit. free_at (range_at live bit) (λ range held. contains_none range (within bit range held))) in omega arith
  where
    free_at : (held : Option PortRange) → ((range : PortRange) → held ≡ Some range → ⊥) → held ≡ None
    free_at None no_range_is = refl
    free_at (Some range) no_range_is = absurd (no_range_is range refl)
live_count-within live (range ∷ ranges) is within = elim (cases_live live range) [
  | inl none ↦
      let rest = live_count-within live ranges is (λ bit other held. elim (contains_cases range other ranges (within bit other held)) [
        | inl same ↦ absurd (not_live live range none bit (held ∙ ap Some (sym same)))
        | inr later ↦ later
      ]) in
      omega arith
  | inr w ↦
      let freed = live_count-freed live w.0 range w.1 in
      let gone : range_at (set live w.0 None) w.0 ≡ None = get_or-set_same live w.0 None None (live_inside live w.0 range w.1) in
      let rest = live_count-within (set live w.0 None) ranges (IsFieldMap-freed live w.0 is) (λ bit other held.
      elim (contains_cases range other ranges (within bit other (freed_at live w.0 bit other held))) [
        | inl same ↦ absurd (
            let place : bit ≡ w.0 = is.one_bit bit w.0 range (freed_at live w.0 bit other held ∙ ap Some (sym same)) w.1 in
            let was : range_at (set live w.0 None) bit ≡ None = ap (range_at (set live w.0 None)) place ∙ gone in
            let both = sym was ∙ held in
            cc)
        | inr later ↦ later
      ]) in
      omega arith
]
