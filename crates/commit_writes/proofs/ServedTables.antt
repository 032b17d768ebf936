-- The words of a commit's new bits make the tables serve its additions too, and keep what they served before; when it has
-- finished, the bits that are left are those of the new set.
use Rattle.std.proofs.Common.{◌≡◌, ℕ, ◌+◌, ◌≤◌, List, [], ◌++◌, length, take, refl, ap, sym, ◌∙◌, subst}
use Rattle.std.specs.List.{AllByRecursion}
use Rattle.std.proofs.Math.Seq.{take-length}
use Rattle.slot_order.proofs.Lists.{contains_none}
use Rattle.rule_model.specs.declared.Rule.{Rule}
use Rattle.rule_model.specs.declared.Field.{Field}
use Rattle.rule_model.specs.declared.Field.TheVariants.{Src, Dst}
use Rattle.rule_model.specs.PortRange.{PortRange}
use Rattle.rule_store.specs.declared.Mode.{Mode}
use Rattle.rule_store.specs.declared.Mode.TheVariants.{Cover, Bits}
use Rattle.rule_store.specs.declared.Command.{Command}
use Rattle.rule_store.specs.Batch.{ChangesRules, additions, set_after}
use Rattle.rule_store.specs.Verdict.{coded_ranges, new_ranges, field_bits}
use Rattle.range_bits.specs.LiveRanges.{LiveRanges, no_ranges, with_ranges, kept_ranges}
use Rattle.range_bits.proofs.FieldMaps.{IsFieldMap-no_ranges, no_range}
use Rattle.range_bits.proofs.Given.{AreGiven}
use Rattle.range_bits.proofs.Newer.{length-newly_live}
use Rattle.tcam_device.specs.State.{State, IsState, blank, blank_table, state_after}
use Rattle.commit_writes.specs.Bits.{FieldBits, no_bits, bits_with, new_bits, bits_left}
use Rattle.commit_writes.specs.Shape.{bit_writes, fresh_writes}
use Rattle.commit_writes.specs.Serving.{AreServing, AreRangesOf, AreBitsOf, HaveFreeBits}
use Rattle.commit_writes.proofs.BatchRules.{right_added}
use Rattle.commit_writes.proofs.CodedRanges.{coded_with, coded_after}
use Rattle.commit_writes.proofs.ServedRanges.{serves_on, fresh_given, serves_all, ranges_left}
use Rattle.commit_writes.proofs.TableWords.{words_taken, IsState-on_the_way, words_written}

-- what is known where a commit begins: the tables serve the rules, and its new ranges fit the free bits
pub record IsBitsStart (mode : Mode) (bits : FieldBits) (rules : List Rule) (batch : List Command) (state : State) : Type 0 where
  pub is_state : IsState (length state.slots) state
  pub changes : AllByRecursion ChangesRules batch
  pub are : AreBitsOf mode bits rules state
  pub few : HaveFreeBits mode rules batch

-- the new bits of a field
pub field_given : (field : Field) (rules : List Rule) (batch : List Command) (live : LiveRanges) (table : List ℕ) → AllByRecursion ChangesRules batch
    → AreRangesOf (coded_ranges field rules) live table → length (coded_ranges field rules) + length (new_ranges field rules batch) ≤ field_bits
    → AreGiven live (new_ranges field rules batch) (with_ranges live (new_ranges field rules batch))
field_given field rules batch live table changes are few = fresh_given field rules batch live table (right_added batch changes) are few

same_places : (ranges new : List PortRange) (live during : LiveRanges) (table : List ℕ) → AreRangesOf ranges live table → AreGiven live new during → length live ≡ length during
same_places ranges new live during table are given = are.field_map.places ∙ sym given.field_map.places

-- there are 16 of them in each field, free or not
fresh_places : (mode : Mode) (bits : FieldBits) (rules : List Rule) (batch : List Command) (state : State) → IsBitsStart mode bits rules batch state
    → (length (new_bits bits (bits_with mode rules batch bits)).src ≡ 16) × (length (new_bits bits (bits_with mode rules batch bits)).dst ≡ 16)
fresh_places Cover bits rules batch state start = subst (λ (b : FieldBits). (length (new_bits b b).src ≡ 16) × (length (new_bits b b).dst ≡ 16)) (sym start.are) (refl, refl)
fresh_places Bits bits rules batch state start =
    let src = field_given Src rules batch bits.src state.src start.changes start.are.0 start.few.0 in
    let dst = field_given Dst rules batch bits.dst state.dst start.changes start.are.1 start.few.1 in (
      length-newly_live bits.src (with_ranges bits.src (new_ranges Src rules batch)) (same_places _ _ _ _ _ start.are.0 src) ∙ src.field_map.places,
      length-newly_live bits.dst (with_ranges bits.dst (new_ranges Dst rules batch)) (same_places _ _ _ _ _ start.are.1 dst) ∙ dst.field_map.places,
    )

-- after the first of the words it is a state still, with its slots as they were,
pub words_state : (mode : Mode) (bits : FieldBits) (rules : List Rule) (batch : List Command) (state : State) → IsBitsStart mode bits rules batch state
    → (n : ℕ) → IsState (length state.slots) (state_after state (take n (fresh_writes mode bits rules batch state)))
words_state mode bits rules batch state start n =
    let places = fresh_places mode bits rules batch state start in
    let fresh = new_bits bits (bits_with mode rules batch bits) in
    IsState-on_the_way (length state.slots) fresh state (state_after state (take n (bit_writes state fresh))) places.0 places.1 start.is_state (words_taken state fresh n)

-- and after all of them
pub words_done : (mode : Mode) (bits : FieldBits) (rules : List Rule) (batch : List Command) (state : State) → IsBitsStart mode bits rules batch state
    → IsState (length (state_after state (fresh_writes mode bits rules batch state)).slots) (state_after state (fresh_writes mode bits rules batch state))
    × ((state_after state (fresh_writes mode bits rules batch state)).slots ≡ state.slots)
words_done mode bits rules batch state start =
    let writes = fresh_writes mode bits rules batch state in
    let same = (words_written state (new_bits bits (bits_with mode rules batch bits))).slots in (
      subst (λ size. IsState size (state_after state writes)) (sym (ap length same))
          (subst (λ made. IsState (length state.slots) (state_after state made)) (take-length writes) (words_state mode bits rules batch state start (length writes))),
      same,
    )

-- on the way they serve what they served
pub words_keep : (mode : Mode) (bits : FieldBits) (rules : List Rule) (batch : List Command) (state : State) → IsBitsStart mode bits rules batch state
    → (n : ℕ) → AreServing mode bits rules (state_after state (take n (fresh_writes mode bits rules batch state)))
words_keep Cover bits rules batch state start n = start.are
words_keep Bits bits rules batch state start n =
    let src = field_given Src rules batch bits.src state.src start.changes start.are.0 start.few.0 in
    let dst = field_given Dst rules batch bits.dst state.dst start.changes start.are.1 start.few.1 in
    let way = words_taken state (new_bits bits (bits_with Bits rules batch bits)) n in (
      serves_on (coded_ranges Src rules) bits.src (with_ranges bits.src (new_ranges Src rules batch)) state.src _ (same_places _ _ _ _ _ start.are.0 src) way.src start.are.0.serves,
      serves_on (coded_ranges Dst rules) bits.dst (with_ranges bits.dst (new_ranges Dst rules batch)) state.dst _ (same_places _ _ _ _ _ start.are.1 dst) way.dst start.are.1.serves,
    )

-- after all of them the tables serve the additions too
pub tables_serve : (mode : Mode) (bits : FieldBits) (rules : List Rule) (batch : List Command) (state : State) → IsBitsStart mode bits rules batch state
    → AreServing mode (bits_with mode rules batch bits) (rules ++ additions batch) (state_after state (fresh_writes mode bits rules batch state))
tables_serve Cover bits rules batch state start = start.are
tables_serve Bits bits rules batch state start =
    let src = field_given Src rules batch bits.src state.src start.changes start.are.0 start.few.0 in
    let dst = field_given Dst rules batch bits.dst state.dst start.changes start.are.1 start.few.1 in
    let words = words_written state (new_bits bits (bits_with Bits rules batch bits)) in (
      serves_all (coded_ranges Src rules) (new_ranges Src rules batch) bits.src (with_ranges bits.src (new_ranges Src rules batch)) state.src _ start.are.0 src start.is_state.src_size words.src
          (coded_ranges Src (rules ++ additions batch)) (coded_with Src rules batch),
      serves_all (coded_ranges Dst rules) (new_ranges Dst rules batch) bits.dst (with_ranges bits.dst (new_ranges Dst rules batch)) state.dst _ start.are.1 dst start.is_state.dst_size words.dst
          (coded_ranges Dst (rules ++ additions batch)) (coded_with Dst rules batch),
    )

-- once the others have given up their bits, those of the new set are left, whatever was written to the slots since
pub bits_after : (mode : Mode) (bits : FieldBits) (rules : List Rule) (batch : List Command) (state after : State) → IsBitsStart mode bits rules batch state
    → (state_after state (fresh_writes mode bits rules batch state)).src ≡ after.src → (state_after state (fresh_writes mode bits rules batch state)).dst ≡ after.dst
    → AreBitsOf mode (bits_left (set_after rules batch) (bits_with mode rules batch bits)) (set_after rules batch) after
bits_after Cover bits rules batch state after start src_is dst_is = ap (bits_left (set_after rules batch)) start.are
bits_after Bits bits rules batch state after start src_is dst_is =
    let src = field_given Src rules batch bits.src state.src start.changes start.are.0 start.few.0 in
    let dst = field_given Dst rules batch bits.dst state.dst start.changes start.are.1 start.few.1 in
    let words = words_written state (new_bits bits (bits_with Bits rules batch bits)) in
    let later = set_after rules batch in (
      subst (λ table. AreRangesOf (coded_ranges Src later) (kept_ranges (with_ranges bits.src (new_ranges Src rules batch)) (coded_ranges Src later)) table) src_is
          (ranges_left (coded_ranges Src rules) (new_ranges Src rules batch) bits.src (with_ranges bits.src (new_ranges Src rules batch)) state.src _ start.are.0 src start.is_state.src_size words.src
          (coded_ranges Src later) (coded_after Src rules batch)),
      subst (λ table. AreRangesOf (coded_ranges Dst later) (kept_ranges (with_ranges bits.dst (new_ranges Dst rules batch)) (coded_ranges Dst later)) table) dst_is
          (ranges_left (coded_ranges Dst rules) (new_ranges Dst rules batch) bits.dst (with_ranges bits.dst (new_ranges Dst rules batch)) state.dst _ start.are.1 dst start.is_state.dst_size words.dst
          (coded_ranges Dst later) (coded_after Dst rules batch)),
    )

-- before the first commit no range is live
pub bits_blank : (mode : Mode) (slots : ℕ) → AreBitsOf mode no_bits [] (blank slots)
bits_blank Cover slots = refl
bits_blank Bits slots = (none, none)
  where
    none : AreRangesOf [] no_ranges blank_table
    none = record {
      field_map = IsFieldMap-no_ranges;
      needed = λ bit range held. absurd (let free = no_range bit in cc);
      serves = record {
        places = refl;
        have_bits = λ range member. absurd (contains_none range member);
        translated = λ bit range held. absurd (let free = no_range bit in cc);
      };
    }
