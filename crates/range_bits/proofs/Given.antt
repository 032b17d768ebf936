-- Which ranges are live, and under which bits, after new ones get bits and after others give theirs up.
use Rattle.std.proofs.Common.{◌≡◌, ℕ, ◌+◌, ◌≤◌, ◌<◌, Option, Some, None, IsSome, List, [], ◌∷◌, length, Contains, set, ◌⊎◌, ◌↔◌, inl, inr, refl, ap, sym, ◌∙◌, subst, cond, arith}
use Rattle.std.specs.List.{list_any}
use Rattle.std.proofs.lemmas.List.{get_or-set_same, get_or-set_other}
use Rattle.std.proofs.lemmas.List.Quantifiers.{position-Some}
use Rattle.std.proofs.lemmas.Option.{cond_some}
use Rattle.slot_order.proofs.Lists.{contains_head, contains_tail, contains_cases, contains_none, any_is, any_from}
use Rattle.rule_model.specs.PortRange.{PortRange, IsPortRange, same_range}
use Rattle.range_bits.specs.LiveRanges.{LiveRanges, is_range, bit_of, range_at, free_bit, assigned, with_ranges, kept, kept_ranges}
use Rattle.range_bits.specs.FieldMap.{IsFieldMap, AreNewRanges, live_count}
use Rattle.range_bits.proofs.FieldMaps.{is_range-is, same_range-is, same_range-self, not_live, IsLeastFree, least_free, is_full, given_at, live_count-given, IsFieldMap-given}
use Rattle.range_bits.proofs.Changes.{cases_assigned, AreNewRanges-tail, range_at-kept_ranges}

-- what there is has a value
pub some_value : {X : Type 0} (found : Option X) → IsSome found → (x : X) × (found ≡ Some x)
some_value None some = absurd (cc)
some_value (Some x) some = (x, refl)

-- the bit of a range has the range
pub bit_of-is : (live : LiveRanges) (range : PortRange) (bit : ℕ) → bit_of live range ≡ Some bit → range_at live bit ≡ Some range
bit_of-is live range bit found =
    let parts = position-Some (is_range range) live bit None found in is_range-is range (range_at live bit) parts.1

-- a range that has a bit is found under it
pub bit_of-at : (live : LiveRanges) (range : PortRange) (bit : ℕ) → IsFieldMap live → range_at live bit ≡ Some range → bit_of live range ≡ Some bit
bit_of-at live range bit is held = go (bit_of live range) refl
  where
    go : (found : Option ℕ) → bit_of live range ≡ found → bit_of live range ≡ Some bit
    go None e = absurd (not_live live range e bit held)
    go (Some other) e = e ∙ ap Some (is.one_bit other bit range (bit_of-is live range other e) held)

-- where a range has the same bits it is found under the same one
pub bit_of-same : (live during : LiveRanges) (range : PortRange) → IsFieldMap live → IsFieldMap during
    → ((bit : ℕ) → (range_at live bit ≡ Some range) ↔ (range_at during bit ≡ Some range)) → bit_of during range ≡ bit_of live range
bit_of-same live during range is now same = go (bit_of live range) refl (bit_of during range) refl
  where
    go : (before : Option ℕ) → bit_of live range ≡ before → (after : Option ℕ) → bit_of during range ≡ after → bit_of during range ≡ bit_of live range
    go None e None f = f ∙ sym e
    go None e (Some bit) f = absurd (not_live live range e bit ((same bit).1 (bit_of-is during range bit f)))
    go (Some bit) e after f = bit_of-at during range bit now ((same bit).0 (bit_of-is live range bit e)) ∙ sym e

-- New ranges are given bits that were free, and all others stay as they are.
pub record AreGiven (live : LiveRanges) (ranges : List PortRange) (during : LiveRanges) : Type 0 where
  pub field_map : IsFieldMap during
  -- each bit that was live has its range still,
  pub stays : (bit : ℕ) (range : PortRange) → range_at live bit ≡ Some range → range_at during bit ≡ Some range
  -- each live range is one of before or a new one,
  pub known : (bit : ℕ) (range : PortRange) → range_at during bit ≡ Some range → (range_at live bit ≡ Some range) ⊎ Contains ranges range
  -- and each new one is live
  pub given : (range : PortRange) → Contains ranges range → (bit : ℕ) × (range_at during bit ≡ Some range)

given_one : (live : LiveRanges) (range : PortRange) (bit : ℕ) → IsFieldMap live → IsPortRange range → bit_of live range ≡ None → Some bit ≡ free_bit live
    → AreGiven live (range ∷ []) (set live bit (Some range))
given_one live range bit is right none free = record {
  field_map = IsFieldMap-given live bit range is right none least.small;
  stays = λ at held_range held. get_or-set_other live bit at (Some range) None (λ same. absurd (let was : range_at live at ≡ None = ap (range_at live) same ∙ least.free in let both = sym was ∙ held in cc)) ∙ held;
  known = λ at held_range held. elim (given_at live bit at range held_range inside held) [
    | inl e ↦ inr (subst (Contains (range ∷ [])) (sym e.1) (contains_head range []))
    | inr e ↦ inl e.1
  ];
  given = λ new member. elim (contains_cases range new [] member) [
    | inl same ↦ (bit, get_or-set_same live bit (Some range) None inside ∙ ap Some same)
    | inr none_is ↦ absurd (contains_none new none_is)
  ];
}
  where
    least : IsLeastFree live bit
    least = least_free live bit is free

    inside : bit < length live
    inside = let size = is.places in let small = least.small in omega arith

given_next : (live next during : LiveRanges) (range : PortRange) (ranges : List PortRange) → AreGiven live (range ∷ []) next → AreGiven next ranges during → AreGiven live (range ∷ ranges) during
given_next live next during range ranges first rest = record {
  field_map = rest.field_map;
  stays = λ bit held_range held. rest.stays bit held_range (first.stays bit held_range held);
  known = λ bit held_range held. elim (rest.known bit held_range held) [
    | inl was ↦ elim (first.known bit held_range was) [
      | inl before ↦ inl before
      | inr new ↦ elim (contains_cases range held_range [] new) [
        | inl same ↦ inr (subst (Contains (range ∷ ranges)) same (contains_head range ranges))
        | inr none_is ↦ absurd (contains_none held_range none_is)
      ]
    ]
    | inr new ↦ inr (contains_tail range held_range ranges new)
  ];
  given = λ new member. elim (contains_cases range new ranges member) [
    | inl same ↦ let w = first.given new (subst (Contains (range ∷ [])) same (contains_head range [])) in (w.0, rest.stays w.0 new w.1)
    | inr later ↦ rest.given new later
  ];
}

-- where as many bits are free, each new range gets one
pub are_given : (live : LiveRanges) (ranges : List PortRange) → IsFieldMap live → AreNewRanges live ranges → live_count live + length ranges ≤ 16
    → AreGiven live ranges (with_ranges live ranges)
are_given live [] is new few = record {
  field_map = is;
  stays = λ bit range held. held;
  known = λ bit range held. inl held;
  given = λ range member. absurd (contains_none range member);
}
are_given live (range ∷ ranges) is new few = elim (cases_assigned live range) [
  | inl w ↦
      let right : IsPortRange range = new.right 0 range (omega arith) in
      let none : bit_of live range ≡ None = new.not_live 0 range (omega arith) in
      let least = least_free live w.0 is w.1 in
      let small = least.small in
      let size = is.places in
      let one = given_one live range w.0 is right none w.1 in
      let count : live_count (set live w.0 (Some range)) ≡ live_count live + 1 = live_count-given live w.0 range least.free (omega arith) in
      let first : AreGiven live (range ∷ []) (assigned live range (free_bit live)) = subst (AreGiven live (range ∷ [])) (sym w.2) one in
      let counted : live_count (assigned live range (free_bit live)) ≡ live_count live + 1 = ap live_count w.2 ∙ count in
      given_next live (assigned live range (free_bit live)) (with_ranges (assigned live range (free_bit live)) ranges) range ranges first
      (are_given (assigned live range (free_bit live)) ranges first.field_map (AreNewRanges-tail live range ranges is new) (omega arith))
  | inr w ↦ absurd (let full = is_full live is w.0 in omega arith)
]

-- a range that isn't new keeps its bit, or has none as before
pub bit_of-with_ranges : (live during : LiveRanges) (ranges : List PortRange) (range : PortRange) → IsFieldMap live → AreGiven live ranges during → (Contains ranges range → ⊥)
    → bit_of during range ≡ bit_of live range
bit_of-with_ranges live during ranges range is given old = bit_of-same live during range is given.field_map (λ bit. (
  given.stays bit range,
  λ held. elim (given.known bit range held) [ inl was ↦ was | inr new ↦ absurd (old new) ],
))

-- those that stand in the list keep their bits, and no others
pub kept_ranges-parts : (live : LiveRanges) (ranges : List PortRange) (bit : ℕ) (range : PortRange)
    → (range_at (kept_ranges live ranges) bit ≡ Some range) ↔ ((range_at live bit ≡ Some range) × Contains ranges range)
kept_ranges-parts live ranges bit range = let at = range_at-kept_ranges live ranges bit in (
  λ held. to (range_at live bit) (sym at ∙ held),
  λ parts. at ∙ ap (kept ranges) parts.0 ∙ ap (λ b. cond b (Some range) None) (any_from (same_range range) ranges range parts.1 (same_range-self range)),
)
  where
    to : (held : Option PortRange) → kept ranges held ≡ Some range → (held ≡ Some range) × Contains ranges range
    to None is = absurd (cc)
    to (Some other) is =
        let parts = cond_some (list_any (same_range other) ranges) other range is in
        let w = any_is (same_range other) ranges parts.0 in
        (ap Some parts.1, subst (Contains ranges) (sym (same_range-is other w.0 w.2) ∙ parts.1) w.1)
