-- What a commit does to the live ranges: new ones get the least free bits, and those that no rule has give up theirs.
use Rattle.std.proofs.Common.{◌≡◌, ◌≢◌, ℕ, suc, Option, Some, None, List, [], ◌∷◌, length, get_or, set, ◌⊎◌, inl, inr, refl, ap, sym, ◌∙◌, arith}
use Rattle.std.specs.List.{list_any}
use Rattle.std.proofs.lemmas.Bool.{cases_lt}
use Rattle.std.proofs.lemmas.List.{length-map, get_or-map, get_or_past}
use Rattle.std.proofs.lemmas.List.Elements.{All-tail}
use Rattle.std.proofs.lemmas.Option.{cond_some}
use Rattle.rule_model.specs.PortRange.{PortRange, IsPortRange, same_range}
use Rattle.range_bits.specs.LiveRanges.{LiveRanges, bit_of, range_at, free_bit, assigned, kept, kept_ranges}
use Rattle.range_bits.specs.FieldMap.{IsFieldMap, AreNewRanges, NewRangesGetOneBit, KeptRangesHaveOneBit}
use Rattle.range_bits.proofs.FieldMaps.{IsFieldMap-given, least_free, not_live, bit_of-none, given_at}

-- with one range more, or with none where no bit is free
pub cases_assigned : (live : LiveRanges) (range : PortRange)
    → ((bit : ℕ) × (Some bit ≡ free_bit live) × (assigned live range (free_bit live) ≡ set live bit (Some range)))
    ⊎ ((None ≡ free_bit live) × (assigned live range (free_bit live) ≡ live))
cases_assigned live range = go (free_bit live) refl
  where
    go : (free : Option ℕ) → free ≡ free_bit live
        → ((bit : ℕ) × (Some bit ≡ free_bit live) × (assigned live range (free_bit live) ≡ set live bit (Some range)))
        ⊎ ((None ≡ free_bit live) × (assigned live range (free_bit live) ≡ live))
    go None e = inr (e, ap (assigned live range) (sym e))
    go (Some bit) e = inl (bit, e, ap (assigned live range) (sym e))

pub IsFieldMap-assigned : (live : LiveRanges) (range : PortRange) → IsFieldMap live → IsPortRange range → bit_of live range ≡ None
    → IsFieldMap (assigned live range (free_bit live))
IsFieldMap-assigned live range is right none =
    elim (cases_assigned live range) [
      | inl w ↦ rw w.2 (IsFieldMap-given live w.0 range is right none (least_free live w.0 is w.1).small)
      | inr w ↦ rw w.1 is
    ]

-- a range that isn't live and isn't the new one stays so
still_new : (live : LiveRanges) (range other : PortRange) → IsFieldMap live → bit_of live other ≡ None → range ≢ other
    → bit_of (assigned live range (free_bit live)) other ≡ None
still_new live range other is none apart =
    elim (cases_assigned live range) [
      | inl w ↦
          let small = (least_free live w.0 is w.1).small in
          let size = is.places in
          rw w.2 (bit_of-none (set live w.0 (Some range)) other (λ bit held. elim (given_at live w.0 bit range other (omega arith) held) [
            | inl e ↦ apart (sym e.1)
            | inr e ↦ not_live live other none bit e.1
          ]))
      | inr w ↦ rw w.1 none
    ]

pub AreNewRanges-tail : (live : LiveRanges) (range : PortRange) (ranges : List PortRange) → IsFieldMap live → AreNewRanges live (range ∷ ranges)
    → AreNewRanges (assigned live range (free_bit live)) ranges
AreNewRanges-tail live range ranges is new = record {
  right = All-tail (λ r. IsPortRange r) range ranges new.right;
  not_live = λ k d inside. still_new live range (get_or ranges k d) is (new.not_live (suc k) d (omega arith)) (new.apart 0 (suc k) d (omega arith) (omega arith));
  apart = λ i j d below inside. new.apart (suc i) (suc j) d (omega arith) (omega arith);
}

pub IsFieldMap-with_ranges : NewRangesGetOneBit
IsFieldMap-with_ranges live [] is new = is
IsFieldMap-with_ranges live (range ∷ ranges) is new =
    IsFieldMap-with_ranges (assigned live range (free_bit live)) ranges
    (IsFieldMap-assigned live range is (new.right 0 range (omega arith)) (new.not_live 0 range (omega arith)))
    (AreNewRanges-tail live range ranges is new)

-- a range stays where it stands in the list
kept_is : (ranges : List PortRange) (held : Option PortRange) (range : PortRange) → kept ranges held ≡ Some range → held ≡ Some range
kept_is ranges None range is = absurd (cc)
kept_is ranges (Some other) range is = ap Some (cond_some (list_any (same_range other) ranges) other range is).1

pub range_at-kept_ranges : (live : LiveRanges) (ranges : List PortRange) (bit : ℕ) → range_at (kept_ranges live ranges) bit ≡ kept ranges (range_at live bit)
range_at-kept_ranges live ranges bit =
    elim (cases_lt bit (length live)) [
      | inl inside ↦ get_or-map (kept ranges) live bit None None inside
      | inr past ↦
          let size = length-map live (kept ranges) in
          get_or_past (kept_ranges live ranges) bit None (omega arith) ∙ ap (kept ranges) (sym (get_or_past live bit None past))
    ]

pub IsFieldMap-kept_ranges : KeptRangesHaveOneBit
IsFieldMap-kept_ranges live ranges is = record {
  places = length-map live (kept ranges) ∙ is.places;
  right = λ bit range held. is.right bit range (was bit range held);
  one_bit = λ a b range held also. is.one_bit a b range (was a range held) (was b range also);
}
  where
    was : (bit : ℕ) (range : PortRange) → range_at (kept_ranges live ranges) bit ≡ Some range → range_at live bit ≡ Some range
    was bit range held = kept_is ranges (range_at live bit) range (sym (range_at-kept_ranges live ranges bit) ∙ held)
