-- While a commit is made the device serves the live ranges before it up to its last table word, and from then on those that
-- are live meanwhile.
use Rattle.std.proofs.Common.{◌≡◌, ℕ, ◌+◌, ◌-◌, ◌^◌, ◌<◌, ◌≤◌, Some, List, ◌++◌, length, take, Contains, inl, inr, sym, ◌∙◌, ap, subst, arith}
use Rattle.std.specs.Prelude.{slice_index, fold, [], IsFalse}
use Rattle.std.specs.List.{AllByRecursion}
use Rattle.std.proofs.lemmas.Bool.{cases_lt}
use Rattle.std.proofs.lemmas.List.{take-append-le}
use Rattle.std.proofs.lemmas.List.Elements.{Contains-append_left, Contains-append_right, Contains-append_cases}
use Rattle.std.proofs.Math.Seq.{take-append-add}
use Rattle.slot_order.specs.Order.{slot}
use Rattle.slot_order.proofs.Lists.{contains_take, AllByRecursion-member}
use Rattle.rule_model.specs.declared.Rule.{Rule}
use Rattle.rule_store.specs.declared.Mode.{Mode}
use Rattle.rule_store.specs.declared.Command.{Command}
use Rattle.rule_store.specs.Batch.{additions, set_after, with_rule}
use Rattle.rule_store.specs.Verdict.{pieces_of, added_pieces}
use Rattle.rule_model.specs.declared.words.Entry.{Entry}
use Rattle.rule_model.specs.Entry.{RankedPiece, entry_for}
use Rattle.tcam_device.specs.declared.Write.{Write}
use Rattle.tcam_device.specs.State.{State, IsState, state_after}
use Rattle.tcam_device.specs.Order.{IsTranslated}
use Rattle.tcam_device.specs.Insertion.{is_table_write, table_writes}
use Rattle.tcam_device.proofs.Spans.{state_after-append}
use Rattle.tcam_device.proofs.Wider.{all_take}
use Rattle.commit_writes.specs.Bits.{FieldBits, bits_with, new_bits}
use Rattle.commit_writes.specs.Shape.{set_pieces, inserted_pieces, fresh_writes}
use Rattle.commit_writes.specs.Commit.{IsSegment, insertion_writes}
use Rattle.commit_writes.specs.Planned.{IsServedBy}
use Rattle.commit_writes.specs.InFlight.{TestsLive, ServesLive}
use Rattle.commit_writes.specs.Segments.{MayBegin}
use Rattle.commit_writes.proofs.BatchPieces.{after_served, row_served}
use Rattle.commit_writes.proofs.BatchRules.{IsSoundChange}
use Rattle.commit_writes.proofs.LiveBits.{chosen_live, tests_live}
use Rattle.commit_writes.proofs.LiveRanges.{translated}
use Rattle.commit_writes.specs.Serving.{AreTranslated}
use Rattle.commit_writes.proofs.ServedTables.{IsBitsStart, words_state, words_done, words_keep, tables_serve}
use Rattle.commit_writes.proofs.SetPieces.{set_served}
use Rattle.commit_writes.proofs.SlotsBehind.{IsCutAtSlots, cut_at_slots}
use Rattle.commit_writes.proofs.SlotWrites.{LeavesTables, tables_left}
use Rattle.commit_writes.proofs.TableWords.{words_taken}

-- what a commit begins with, as the lemmas of its parts ask for it
pub change_begun : (mode : Mode) (bits : FieldBits) (rules : List Rule) (batch : List Command) (state : State) → MayBegin mode bits rules batch state → IsSoundChange rules batch
change_begun mode bits rules batch state begin =
    record { is_set = begin.at_rest.is_set; right = begin.at_rest.right; changes = begin.changes; sound = begin.sound }

pub bits_begun : (mode : Mode) (bits : FieldBits) (rules : List Rule) (batch : List Command) (state : State) → MayBegin mode bits rules batch state → IsBitsStart mode bits rules batch state
bits_begun mode bits rules batch state begin =
    record { is_state = begin.at_rest.is_state; changes = begin.changes; are = begin.at_rest.bits_are; few = begin.few }

module _ (mode : Mode) (bits : FieldBits) (rules : List Rule) (batch : List Command) (state : State) (made : List Write)
    (begin : MayBegin mode bits rules batch state) (segment : IsSegment mode bits rules batch state made) where
  abbrev during : FieldBits
  during = bits_with mode rules batch bits

  abbrev tables : List Write
  tables = fresh_writes mode bits rules batch state

  abbrev behind : State
  behind = state_after state tables

  abbrev inserted : List RankedPiece
  inserted = inserted_pieces mode during rules batch

  change : IsSoundChange rules batch
  change = change_begun mode bits rules batch state begin

  start : IsBitsStart mode bits rules batch state
  start = bits_begun mode bits rules batch state begin

  cut : IsCutAtSlots tables made
  cut = cut_at_slots mode bits rules batch state made segment.shape

  -- while table words are written the slots hold the set's pieces, and the tables serve its rules
  amid : (n : ℕ) → ServesLive bits (state_after state (take n tables))
  amid n = record {
    src_words = (words_state mode bits rules batch state start n).src_words;
    dst_words = (words_state mode bits rules batch state start n).dst_words;
    src_right = right.src;
    dst_right = right.dst;
    tested = λ at entry held.
        let known = begin.at_rest.ordered.known at entry (ap (λ slots. slot slots at) (sym (words_taken state (new_bits bits during) n).slots) ∙ held) in
        subst (TestsLive bits) known.2
        (tests_live bits (state_after state (take n tables)) known.0 (AllByRecursion-member (IsServedBy (state_after state (take n tables))) (set_pieces mode bits rules) known.0 served known.1)
        (chosen_live bits (pieces_of mode) rules known.0 known.1));
  }
    where
      right : AreTranslated (state_after state (take n tables)) bits
      right = translated mode bits rules (state_after state (take n tables)) (words_keep mode bits rules batch state start n)

      served : AllByRecursion (IsServedBy (state_after state (take n tables))) (set_pieces mode bits rules)
      served = set_served mode bits (state_after state (take n tables)) rules (words_keep mode bits rules batch state start n) begin.at_rest.right

  pub early : (n : ℕ) → n ≤ table_writes made → ServesLive bits (state_after state (take n made))
  early n below =
      let few : n ≤ length tables = let count = cut.count in omega arith in
      let same : take n made ≡ take n tables = ap (take n) cut.parts ∙ take-append-le n tables cut.rest few in
      subst (λ ws. ServesLive bits (state_after state ws)) (sym same) (amid n)

  -- once all of them are written no table changes
  pub tables_stay : (n : ℕ) → table_writes made ≤ n → LeavesTables (state_after state (fresh_writes mode bits rules batch state)) (state_after state (take n made))
  tables_stay n above =
      let count = cut.count in
      let more : length tables + (n - length tables) ≡ n = omega arith in
      let same : take n made ≡ tables ++ take (n - length tables) cut.rest =
      ap (λ k. take k made) (sym more) ∙ (ap (take (length tables + (n - length tables))) cut.parts ∙ take-append-add tables cut.rest (n - length tables)) in
      let there : state_after state (take n made) ≡ state_after behind (take (n - length tables) cut.rest) =
      ap (state_after state) same ∙ state_after-append state tables (take (n - length tables) cut.rest) in
      subst (LeavesTables behind) (sym there)
      (tables_left behind (take (n - length tables) cut.rest) (all_take (λ write. IsFalse (is_table_write write)) (n - length tables) cut.rest cut.slots))

  -- the pieces that stand then test bits that are live meanwhile
  of_row : (ranked : RankedPiece) → Contains (set_pieces mode (bits_with mode rules batch bits) rules ++ inserted) ranked → IsServedBy behind ranked
  of_row ranked member =
      AllByRecursion-member (IsServedBy behind) (set_pieces mode (bits_with mode rules batch bits) rules ++ inserted) ranked
      (row_served mode during behind rules batch change (tables_serve mode bits rules batch state start)) member

  of_old : (ranked : RankedPiece) → Contains (set_pieces mode (bits_with mode rules batch bits) rules) ranked → TestsLive during (entry_for ranked)
  of_old ranked member =
      tests_live during behind ranked (of_row ranked (Contains-append_left (set_pieces mode (bits_with mode rules batch bits) rules) inserted ranked member)) (chosen_live during (pieces_of mode) rules ranked member)

  of_inserted : (ranked : RankedPiece) → Contains inserted ranked → TestsLive during (entry_for ranked)
  of_inserted ranked member =
      tests_live during behind ranked (of_row ranked (Contains-append_right (set_pieces mode (bits_with mode rules batch bits) rules) inserted ranked member))
      (chosen_live during (added_pieces mode rules) (fold with_rule [] (additions batch)) ranked member)

  of_new : (ranked : RankedPiece) → Contains (set_pieces mode (bits_with mode rules batch bits) (set_after rules batch)) ranked → TestsLive during (entry_for ranked)
  of_new ranked member =
      tests_live during behind ranked
      (AllByRecursion-member (IsServedBy behind) (set_pieces mode (bits_with mode rules batch bits) (set_after rules batch)) ranked (after_served mode during behind rules batch change (tables_serve mode bits rules batch state start)) member)
      (chosen_live during (pieces_of mode) (set_after rules batch) ranked member)

  late_tested : (n : ℕ) (at : ℕ) (entry : Entry) → slot (state_after state (take n made)).slots at ≡ Some entry → TestsLive during entry
  late_tested n at entry held = elim (cases_lt (insertion_writes state made) n) [
    | inl past ↦
        let w = segment.order.finishing n (omega arith) in
        let known = w.2.ordered.known at entry held in
        subst (TestsLive during) known.2 (elim (w.1.known known.0 known.1) [ inl old ↦ of_old known.0 old | inr new ↦ of_new known.0 new ])
    | inr within ↦
        let w = segment.order.inserting n within in
        let known = w.1.ordered.known at entry held in
        subst (TestsLive during) known.2
        (elim (Contains-append_cases (set_pieces mode (bits_with mode rules batch bits) rules) (take w.0 inserted) known.0 known.1) [
          | inl old ↦ of_old known.0 old
          | inr put ↦ let place = contains_take w.0 inserted known.0 put in of_inserted known.0 (place.0, place.2, place.3)
        ])
  ]

  pub late : (n : ℕ) → table_writes made ≤ n → ServesLive (bits_with mode rules batch bits) (state_after state (take n made))
  late n above = record {
    src_words = λ port. subst (λ (table : List ℕ). slice_index table port < 2 ^ 16) (sym left.src) (is.src_words port);
    dst_words = λ port. subst (λ (table : List ℕ). slice_index table port < 2 ^ 16) (sym left.dst) (is.dst_words port);
    src_right = λ bit range live. subst (λ (table : List ℕ). IsTranslated table bit range) (sym left.src) (right.src bit range live);
    dst_right = λ bit range live. subst (λ (table : List ℕ). IsTranslated table bit range) (sym left.dst) (right.dst bit range live);
    tested = late_tested n;
  }
    where
      left : LeavesTables behind (state_after state (take n made))
      left = tables_stay n above

      is : IsState (length behind.slots) behind
      is = (words_done mode bits rules batch state start).0

      right : AreTranslated behind during
      right = translated mode during (rules ++ additions batch) behind (tables_serve mode bits rules batch state start)
