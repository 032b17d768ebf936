-- A planned batch keeps the device in order, from the pieces of the old set to those of the new one.
use Rattle.std.proofs.Common.{◌≡◌, ℕ, ◌≤◌, List, ◌++◌, length, take, slice_get, Contains, inl, inr, sym, ◌∙◌, subst, ap, arith}
use Rattle.std.specs.Prelude.{IsFalse, flat_map}
use Rattle.std.proofs.Math.Seq.{take-length}
use Rattle.std.proofs.lemmas.List.Elements.{Contains-append_left, Contains-append_right, Contains-append_cases}
use Rattle.slot_order.proofs.Lists.{AllByRecursion-member, contains_take}
use Rattle.std.proofs.lemmas.List.{take-append-le}
use Rattle.slot_pool.specs.Arrangement.{Slots}
use Rattle.rule_model.specs.declared.Rule.{Rule}
use Rattle.rule_store.specs.declared.Mode.{Mode}
use Rattle.rule_store.specs.declared.Command.{Command}
use Rattle.rule_store.specs.Batch.{set_after}
use Rattle.rule_model.specs.Entry.{RankedPiece}
use Rattle.placement.specs.declared.LivePiece.{LivePiece}
use Rattle.tcam_device.specs.declared.Write.{Write}
use Rattle.tcam_device.specs.State.{State, state_after}
use Rattle.tcam_device.specs.Order.{IsOrdered, IsTranslated, ServesBits, StandsOnce, HasOneTwin}
use Rattle.tcam_device.specs.Insertion.{Insertion, insertions, is_table_write}
use Rattle.tcam_device.proofs.Wider.{all_take}
use Rattle.commit_writes.specs.Proposal.{proposal}
use Rattle.commit_writes.specs.declared.Rewrite.{Rewrite}
use Rattle.commit_writes.specs.Bits.{FieldBits}
use Rattle.commit_writes.specs.Shape.{set_pieces, inserted_pieces}
use Rattle.commit_writes.specs.Commit.{AreBetween, HoldsInOrder, KeepsPieces, insertion_writes}
use Rattle.commit_writes.specs.Planned.{IdEntries, Planned, IsPlannedRow, IsServedBy, planned_writes}
use Rattle.commit_writes.specs.PlannedBatch.{batch_writes, IsPlannedBatch}
use Rattle.commit_writes.proofs.BatchPieces.{after_served}
use Rattle.commit_writes.proofs.BatchRules.{IsSoundChange, change_of, set_after-is}
use Rattle.commit_writes.proofs.BatchRow.{row_of}
use Rattle.commit_writes.proofs.SetPieces.{pieces_once}
use Rattle.commit_writes.proofs.BatchStages.{batch_stage, batch_last}
use Rattle.commit_writes.proofs.BatchStands.{batch_insertions}
use Rattle.commit_writes.proofs.Counted.{writes_of_made}
use Rattle.commit_writes.proofs.BatchSegment.{batch_tables}
use Rattle.commit_writes.proofs.OnTheWay.{on_the_way_between}
use Rattle.commit_writes.proofs.Ordered.{planned_ordered, planned_between}
use Rattle.commit_writes.proofs.Row.{whole_insertions, whole_insertions-rise}
use Rattle.commit_writes.proofs.SlotWrites.{batch_slots, tables_left}
use Rattle.commit_writes.proofs.Start.{commit_piece, commit_makes, commit_done}

module _ (mode : Mode) (bits : FieldBits) (state : State) (rules : List Rule) (batch : List Command) (live : List LivePiece) (slots : Slots) (entries : IdEntries) (planned : List Planned) (rewrites : List Rewrite) (erased : List ℕ) (plan : IsPlannedBatch (proposal mode bits rules batch) state live slots entries planned rewrites erased) where
  abbrev made : List Write
  made = batch_writes entries slots planned rewrites erased

  abbrev later : List Rule
  later = set_after rules batch

  abbrev old : List RankedPiece
  old = set_pieces mode bits rules

  abbrev new : List RankedPiece
  new = set_pieces mode bits later

  abbrev inserting : List Write
  inserting = planned_writes entries planned

  abbrev added : List RankedPiece
  added = inserted_pieces mode bits rules batch

  row : IsPlannedRow state old added live slots entries planned
  row = row_of mode bits state rules batch live slots entries planned rewrites erased plan

  change : IsSoundChange rules batch
  change = change_of mode bits state rules batch live slots entries planned rewrites erased plan

  -- the tables, which no write changes, serve each piece of the old set, of the inserted ones and of the new set
  serves : (n : ℕ) (Member : RankedPiece → Type 0) → ((ranked : RankedPiece) → Member ranked → IsServedBy state ranked) → ServesBits (state_after state (take n made)) Member
  serves n Member each =
      let left = tables_left state (take n made) (all_take (λ write. IsFalse (is_table_write write)) n made (batch_slots entries slots planned rewrites erased)) in
      record {
        srcbits = λ ranked bit member tested. subst (λ (table : List ℕ). IsTranslated table bit ranked.piece.sport) (sym left.src) ((each ranked member).srcbits bit tested);
        dstbits = λ ranked bit member tested. subst (λ (table : List ℕ). IsTranslated table bit ranked.piece.dport) (sym left.dst) ((each ranked member).dstbits bit tested);
      }

  row_is : (k : ℕ) (ranked : RankedPiece) → Contains (old ++ take k added) ranked → IsServedBy state ranked
  row_is k ranked member = AllByRecursion-member (IsServedBy state) (old ++ added) ranked row.served (elim (Contains-append_cases old (take k added) ranked member) [
    | inl was ↦ Contains-append_left old added ranked was
    | inr put ↦ let at = contains_take k added ranked put in Contains-append_right old added ranked (at.0, at.2, at.3)
  ])

  new_is : (ranked : RankedPiece) → Contains new ranked → IsServedBy state ranked
  new_is ranked member = AllByRecursion-member (IsServedBy state) new ranked (after_served mode bits state rules batch change plan.serving) member

  between_is : (standing : List RankedPiece) → AreBetween old new standing → (ranked : RankedPiece) → Contains standing ranked → IsServedBy state ranked
  between_is standing between ranked member = elim (between.known ranked member) [
    | inl was ↦ AllByRecursion-member (IsServedBy state) (old ++ added) ranked row.served (Contains-append_left old added ranked was)
    | inr is ↦ new_is ranked is
  ]

  -- no table is written, so the writes of the insertions come first
  insertions_first : insertion_writes state made ≡ length inserting
  insertions_first =
      let writes : flat_map (λ (insertion : Insertion). insertion.writes) (insertions state made) ≡ inserting =
      ap (λ (some : List Insertion). flat_map (λ (insertion : Insertion). insertion.writes) some)
      (batch_insertions mode bits state rules batch live slots entries planned rewrites erased plan ∙ commit_makes state old added live slots entries planned row)
      ∙ writes_of_made entries (commit_piece live entries planned) state planned in
      let none = batch_tables mode bits state rules batch live slots entries planned rewrites erased plan in
      let size = ap length writes in omega arith

  -- while they are made, the old set's pieces stand with the first of the inserted ones,
  abbrev early : (n : ℕ) → n ≤ insertion_writes state made → (k : ℕ) × HoldsInOrder (state_after state (take n made)) (Contains (old ++ take k added))
  early n within =
      let short : n ≤ length inserting = let first = insertions_first in omega arith in
      let count = whole_insertions planned n in (
        count,
        record {
          ordered = subst (λ (writes : List Write). IsOrdered (state_after state writes) (Contains (old ++ take count added))) (sym (take-append-le n inserting _ short))
              (planned_ordered state old added live slots entries planned n row);
          serves = serves n (Contains (old ++ take count added)) (row_is count);
        },
      )

  -- at most one of them in two slots,
  copies : (n : ℕ) → n ≤ insertion_writes state made → HasOneTwin (state_after state (take n made)).slots
  copies n within =
      let short : n ≤ length inserting = let first = insertions_first in omega arith in
      subst (λ (writes : List Write). HasOneTwin (state_after state writes).slots) (sym (take-append-le n inserting _ short))
      ((commit_done state old added live slots entries planned row).copies n)

  -- and behind them what is on the way, each piece once
  late : (n : ℕ) → insertion_writes state made ≤ n → (standing : List RankedPiece) × AreBetween old new standing
      × HoldsInOrder (state_after state (take n made)) (Contains standing) × StandsOnce (state_after state (take n made)) (Contains standing)
  late n past =
      let stage = batch_stage mode bits state rules batch live slots entries planned rewrites erased plan n in
      let between = on_the_way_between old new stage.standing (pieces_once mode bits rules plan.is_set) (pieces_once mode bits later (set_after-is rules batch change)) stage.way in (
        stage.standing,
        between,
        record { ordered = stage.ordered; serves = serves n (Contains stage.standing) (between_is stage.standing between) },
        stage.once (let first = insertions_first in omega arith),
      )

  pub batch_keeps : KeepsPieces old added new state made
  batch_keeps = record {
    inserting = early;
    rising = λ n m now later more. whole_insertions-rise planned n m more;
    between = λ k insertion read.
        planned_between state old added live slots entries planned k insertion row
        (ap (λ (some : List Insertion). slice_get some k) (sym (batch_insertions mode bits state rules batch live slots entries planned rewrites erased plan)) ∙ read);
    copies = copies;
    finishing = late;
    after = record {
      ordered = (batch_last mode bits state rules batch live slots entries planned rewrites erased plan).ordered;
      serves = subst (λ (writes : List Write). ServesBits (state_after state writes) (Contains new)) (take-length made) (serves (length made) (Contains new) new_is);
    };
    once = (batch_last mode bits state rules batch live slots entries planned rewrites erased plan).once;
  }
