-- Where exactly the ranges of some rules are live: what a batch needs bits for, and how many are in use, told by the rules
-- alone.
use Rattle.std.proofs.Common.{◌≡◌, ◌≢◌, ℕ, ◌≤◌, Some, None, is_some, not, List, [], ◌∷◌, length, map, filter, Contains, set, ap, ap₂, sym, ◌∙◌, subst, arith}
use Rattle.std.specs.Prelude.{AllPairs}
use Rattle.std.specs.Cmp.{both_ways}
use Rattle.std.specs.List.{list_any}
use Rattle.std.proofs.lemmas.List.{get_or-set_other}
use Rattle.std.proofs.lemmas.List.Elements.{All-contains, filter_agree}
use Rattle.slot_order.proofs.Lists.{contains_head, contains_tail, any_is, any_from}
use Rattle.rule_model.specs.declared.Rule.{Rule}
use Rattle.rule_model.specs.declared.Field.{Field}
use Rattle.rule_model.specs.declared.Field.TheVariants.{Src, Dst}
use Rattle.rule_model.specs.PortRange.{PortRange, same_range, is_block}
use Rattle.rule_model.specs.Rule.{range_of}
use Rattle.rule_model.proofs.Pairs.{pairs_head, pairs_tail}
use Rattle.rule_store.specs.declared.Mode.TheVariants.{Bits}
use Rattle.rule_store.specs.declared.Command.{Command}
use Rattle.rule_store.specs.Batch.{additions}
use Rattle.rule_store.specs.Verdict.{coded_ranges, new_ranges}
use Rattle.range_bits.specs.LiveRanges.{LiveRanges, bit_of, range_at, with_ranges}
use Rattle.range_bits.specs.FieldMap.{IsFieldMap, live_count}
use Rattle.range_bits.proofs.FieldMaps.{same_range-is, same_range-self, live_count-freed, live_count-within, IsFieldMap-freed}
use Rattle.range_bits.proofs.Given.{some_value, bit_of-is, bit_of-at}
use Rattle.commit_writes.specs.Bits.{FieldBits, bits_with}
use Rattle.commit_writes.specs.Serving.{AreRangesOf}
use Rattle.commit_writes.proofs.CodedRanges.{distinct_apart}
use Rattle.commit_writes.specs.Needed.{AreLive, ranges_without, with_needed}

-- between commits those of the rules do
pub are_live : (ranges : List PortRange) (live : LiveRanges) (table : List ℕ) → AreRangesOf ranges live table → AreLive live ranges
are_live ranges live table are range = (
  λ has. let w = some_value (bit_of live range) has in are.needed w.0 range (bit_of-is live range w.0 w.1),
  are.serves.have_bits range,
)

-- a batch needs bits for its new ranges
pub without_bits-new : (live : LiveRanges) (field : Field) (rules : List Rule) (batch : List Command) → AreLive live (coded_ranges field rules)
    → ranges_without live field batch ≡ new_ranges field rules batch
without_bits-new live field rules batch are = filter_agree _ _ (λ range. ap not (tested range)) (coded_ranges field (additions batch))
  where
    tested : (range : PortRange) → is_some (bit_of live range) ≡ list_any (same_range range) (coded_ranges field rules)
    tested range = both_ways _ _
        (λ has. any_from (same_range range) (coded_ranges field rules) range ((are range).0 has) (same_range-self range))
        (λ stands. let w = any_is (same_range range) (coded_ranges field rules) stands in
        (are range).1 (subst (Contains (coded_ranges field rules)) (sym (same_range-is range w.0 w.2)) w.1))

-- as many ranges are live as differ, of some that are
live_each : (live : LiveRanges) (ranges : List PortRange) → IsFieldMap live → AllPairs (λ range other. range ≢ other) ranges
    → ((range : PortRange) → Contains ranges range → (bit : ℕ) × (range_at live bit ≡ Some range)) → length ranges ≤ live_count live
live_each live [] is apart each = omega arith
live_each live (range ∷ ranges) is apart each =
    let freed = live_count-freed live w.0 range w.1 in
    let rest = live_each (set live w.0 None) ranges (IsFieldMap-freed live w.0 is) (pairs_tail (λ range other. range ≢ other) range ranges apart) still in
    omega arith
  where
    w : (bit : ℕ) × (range_at live bit ≡ Some range)
    w = each range (contains_head range ranges)

    still : (other : PortRange) → Contains ranges other → (bit : ℕ) × (range_at (set live w.0 None) bit ≡ Some other)
    still other member =
        let v = each other (contains_tail range other ranges member) in
        let differs : range ≢ other = All-contains (λ (r : PortRange). range ≢ r) ranges other (pairs_head (λ range other. range ≢ other) range ranges apart) member in (
          v.0,
          get_or-set_other live w.0 v.0 None None (λ same. differs (
              let here : Some range ≡ Some other = sym w.1 ∙ ap (range_at live) (sym same) ∙ v.1 in cc)) ∙ v.1,
        )

-- so as many bits are in use as the rules have ranges
pub live_count-coded : (live : LiveRanges) (field : Field) (rules : List Rule) → IsFieldMap live → AreLive live (coded_ranges field rules)
    → live_count live ≡ length (coded_ranges field rules)
live_count-coded live field rules is are =
    let most = live_count-within live (coded_ranges field rules) is (λ bit range held. (are range).0 (ap is_some (bit_of-at live range bit is held))) in
    let least = live_each live (coded_ranges field rules) is (distinct_apart (filter (λ range. not (is_block range)) (map (range_of field) rules)))
    (λ range member. let w = some_value (bit_of live range) ((are range).1 member) in (w.0, bit_of-is live range w.0 w.1)) in
    omega arith

-- and the live ranges of a commit are those that it is said to make
pub with_needed-new : (bits : FieldBits) (rules : List Rule) (batch : List Command) → AreLive bits.src (coded_ranges Src rules) → AreLive bits.dst (coded_ranges Dst rules)
    → with_needed bits batch ≡ bits_with Bits rules batch bits
with_needed-new bits rules batch src dst =
    ap₂ (λ (s d : LiveRanges). let with : FieldBits = record { src = s; dst = d } in with)
    (ap (with_ranges bits.src) (without_bits-new bits.src Src rules batch src))
    (ap (with_ranges bits.dst) (without_bits-new bits.dst Dst rules batch dst))
