-- The bits of a set's ranges, and those that a batch needs.
use Rattle.std.proofs.Common.{◌≡◌, Bool, ℕ, ◌+◌, ◌≤◌, Some, None, IsTrue, is_some, List, [], length, refl, sym, ◌∙◌, subst, ap, arith}
use Rattle.std.specs.Prelude.{◌↔◌, nat_eq}
use Rattle.std.proofs.lemmas.Bool.{eqb-true, eq-eqb}
use Rattle.std.proofs.lemmas.List.{get_or_default}
use Rattle.std.proofs.lemmas.List.Sums.{length-filter}
use Rattle.slot_order.proofs.Lists.{contains_none, filter_in}
use Rattle.slot_order.proofs.Writes.{slot_inside}
use Rattle.rule_model.specs.declared.Rule.{Rule}
use Rattle.rule_model.specs.declared.Field.{Field}
use Rattle.rule_model.specs.declared.Field.TheVariants.{Src, Dst}
use Rattle.rule_model.specs.PortRange.{PortRange}
use Rattle.rule_store.specs.declared.Mode.{Mode}
use Rattle.rule_store.specs.declared.Mode.TheVariants.{Cover, Bits}
use Rattle.rule_store.specs.declared.Command.{Command}
use Rattle.rule_store.specs.Verdict.{coded_ranges, field_bits}
use Rattle.range_bits.specs.LiveRanges.{LiveRanges, range_at}
use Rattle.range_bits.specs.FieldMap.{IsFieldMap, live_count}
use Rattle.range_bits.proofs.FieldMaps.{live_count-within}
use Rattle.commit_writes.specs.Bits.{FieldBits, bits_with, no_bits}
use Rattle.commit_writes.specs.Serving.{HaveFreeBits}
use Rattle.commit_writes.specs.Needed.{AreLive, ranges_needed, with_needed}
use Rattle.commit_writes.proofs.RulesBits.{live_count-coded, without_bits-new, with_needed-new}
use Rattle.commit_writes.proofs.SetRanges.{is_live, are_by}
use Rattle.readback.specs.Fault.{AreSetBits, set_ranges}
use Rattle.readback.proofs.Begun.{no_bits_live}

-- no range is live where none is counted,
none_at : (live : LiveRanges) → live_count live ≡ 0 → (bit : ℕ) (range : PortRange) → range_at live bit ≡ Some range → ⊥
none_at live none bit range held =
    let inside = slot_inside live bit range held in
    let found = filter_in (λ place. is_some place) live (Some range) (bit, inside, get_or_default live bit (Some range) None inside ∙ held) refl in
    let size = length-filter (λ place. is_some place) live in
    let within = found.1 in
    omega (arith, none)

-- and none is counted where none is live
none_counted : (live : LiveRanges) → IsFieldMap live → AreLive live [] → live_count live ≡ 0
none_counted live is are = let most = live_count-within live [] is (λ bit range held. (are range).0 (is_live live bit range held)) in omega arith

pub cover_right : (mode : Mode) (field : Field) (rules : List Rule) (live : LiveRanges) (count : ℕ) → mode ≡ Cover → count ≡ live_count live → IsFieldMap live
    → IsTrue (nat_eq count 0) ↔ AreLive live (set_ranges mode field rules)
cover_right mode field rules live count cover counted is =
    subst (λ m. IsTrue (nat_eq count 0) ↔ AreLive live (set_ranges m field rules)) (sym cover) (
      (λ none. are_by live [] (λ bit range held. absurd (none_at live (sym counted ∙ eqb-true count 0 none) bit range held)) (λ range member. absurd (contains_none range member))),
      (λ are. eq-eqb count 0 (counted ∙ none_counted live is are)),
    )

pub bits_right : (mode : Mode) (field : Field) (rules : List Rule) (live : LiveRanges) (found : Bool) → mode ≡ Bits → IsTrue found ↔ AreLive live (coded_ranges field rules)
    → IsTrue found ↔ AreLive live (set_ranges mode field rules)
bits_right mode field rules live found bits right = subst (λ m. IsTrue found ↔ AreLive live (set_ranges m field rules)) (sym bits) right

-- in both fields
pub both_set : (mode : Mode) (rules : List Rule) (bits : FieldBits) → AreLive bits.src (set_ranges mode Src rules) → AreLive bits.dst (set_ranges mode Dst rules) → AreSetBits mode rules bits
both_set mode rules bits src dst Src range = src range
both_set mode rules bits src dst Dst range = dst range

-- the ranges that a batch needs bits for fit the free ones
pub src_fits : (mode : Mode) (rules : List Rule) (batch : List Command) (bits : FieldBits) → mode ≡ Bits → AreSetBits mode rules bits → IsFieldMap bits.src → HaveFreeBits mode rules batch
    → live_count bits.src + length (ranges_needed Src bits batch) ≤ field_bits
src_fits mode rules batch bits is are map few =
    let set : AreLive bits.src (coded_ranges Src rules) = subst (λ m. AreSetBits m rules bits) is are Src in
    let free : HaveFreeBits Bits rules batch = subst (λ m. HaveFreeBits m rules batch) is few in
    let count = live_count-coded bits.src Src rules map set in
    let new = ap length (without_bits-new bits.src Src rules batch set) in
    let fits = free.0 in
    omega arith

pub dst_fits : (mode : Mode) (rules : List Rule) (batch : List Command) (bits : FieldBits) → mode ≡ Bits → AreSetBits mode rules bits → IsFieldMap bits.dst → HaveFreeBits mode rules batch
    → live_count bits.dst + length (ranges_needed Dst bits batch) ≤ field_bits
dst_fits mode rules batch bits is are map few =
    let set : AreLive bits.dst (coded_ranges Dst rules) = subst (λ m. AreSetBits m rules bits) is are Dst in
    let free : HaveFreeBits Bits rules batch = subst (λ m. HaveFreeBits m rules batch) is few in
    let count = live_count-coded bits.dst Dst rules map set in
    let new = ap length (without_bits-new bits.dst Dst rules batch set) in
    let fits = free.1 in
    omega arith

-- the live ranges while a commit is made
pub cover_meanwhile : (mode : Mode) (rules : List Rule) (batch : List Command) (bits : FieldBits) → mode ≡ Cover → AreSetBits mode rules bits → IsFieldMap bits.src → IsFieldMap bits.dst
    → no_bits ≡ bits_with mode rules batch bits
cover_meanwhile mode rules batch bits is are src dst =
    subst (λ m. no_bits ≡ bits_with m rules batch bits) (sym is) (sym (no_bits_live bits rules src dst (subst (λ m. AreSetBits m rules bits) is are)))

pub bits_meanwhile : (mode : Mode) (rules : List Rule) (batch : List Command) (bits : FieldBits) → mode ≡ Bits → AreSetBits mode rules bits → with_needed bits batch ≡ bits_with mode rules batch bits
bits_meanwhile mode rules batch bits is are =
    let set = subst (λ m. AreSetBits m rules bits) is are in
    subst (λ m. with_needed bits batch ≡ bits_with m rules batch bits) (sym is) (with_needed-new bits rules batch (set Src) (set Dst))
