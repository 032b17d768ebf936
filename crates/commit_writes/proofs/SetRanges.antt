-- Whether the live ranges are those of a set: none is another, and each is live.
use Rattle.std.proofs.Common.{◌≡◌, ℕ, Bool, true, false, ◌||◌, Option, Some, None, is_some, IsTrue, List, Contains, inl, inr, refl, ap, sym, ◌∙◌, subst}
use Rattle.std.proofs.lemmas.Bool.{cases_Bool, both_ways}
use Rattle.std.specs.List.{list_any}
use Rattle.slot_order.proofs.Lists.{any_is}
use Rattle.rule_model.specs.declared.Field.{Field}
use Rattle.rule_model.specs.declared.Rule.{Rule}
use Rattle.rule_model.specs.PortRange.{PortRange, same_range, is_block}
use Rattle.rule_model.specs.Rule.{range_of}
use Rattle.rule_store.specs.Verdict.{coded_ranges}
use Rattle.range_bits.specs.LiveRanges.{LiveRanges, range_at, bit_of}
use Rattle.range_bits.proofs.FieldMaps.{not_live, same_range-is}
use Rattle.range_bits.proofs.Given.{some_value, bit_of-is}
use Rattle.commit_writes.proofs.CodedRanges.{coded_in}
use Rattle.commit_writes.specs.Needed.{AreLive}

-- what is found among ranges is one of them
pub is_one : (ranges : List PortRange) (range : PortRange) → list_any (same_range range) ranges ≡ true → Contains ranges range
is_one ranges range found =
    let w = any_is (same_range range) ranges found in subst (Contains ranges) (sym (same_range-is range w.0 w.2)) w.1

-- what a bit has is live
pub is_live : (live : LiveRanges) (bit : ℕ) (range : PortRange) → range_at live bit ≡ Some range → IsTrue (is_some (bit_of live range))
is_live live bit range held = go (bit_of live range) refl
  where
    go : (found : Option ℕ) → bit_of live range ≡ found → IsTrue (is_some (bit_of live range))
    go None e = absurd (not_live live range e bit held)
    go (Some other) e = ap is_some e

pub are_by : (live : LiveRanges) (ranges : List PortRange) → ((bit : ℕ) (range : PortRange) → range_at live bit ≡ Some range → Contains ranges range)
    → ((range : PortRange) → Contains ranges range → IsTrue (is_some (bit_of live range))) → AreLive live ranges
are_by live ranges only each range = (
  λ has. let w = some_value (bit_of live range) has in only w.0 range (bit_of-is live range w.0 w.1),
  each range,
)

pub only_these : (live : LiveRanges) (ranges : List PortRange) → AreLive live ranges → (bit : ℕ) (range : PortRange) → range_at live bit ≡ Some range → Contains ranges range
only_these live ranges are bit range held = (are range).0 (is_live live bit range held)

-- a rule whose range needs a bit and has none
pub one_misses : (live : LiveRanges) (field : Field) (rules : List Rule) (rule : Rule) → Contains rules rule
    → (is_block (range_of field rule) || is_some (bit_of live (range_of field rule))) ≡ false
    → ((range : PortRange) → Contains (coded_ranges field rules) range → IsTrue (is_some (bit_of live range))) → ⊥
one_misses live field rules rule member fails each =
    let range = range_of field rule in
    let has = is_some (bit_of live range) in
    elim (cases_Bool (is_block range)) [
      | inl block ↦ both_ways (is_block range || has) fails (ap (λ (b : Bool). b || has) block)
      | inr coded ↦ both_ways has (sym (ap (λ (b : Bool). b || has) coded) ∙ fails) (each range (coded_in field rules rule member coded))
    ]
