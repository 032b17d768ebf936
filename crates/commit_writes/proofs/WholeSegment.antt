-- A commit as it was planned, the words of its new bits first, is a segment; on a device with more slots, too.
use Rattle.std.proofs.Common.{◌≡◌, ◌-◌, ℕ, List, ◌++◌, length, sym, ap, subst, ◌∙◌}
use Rattle.std.specs.List.{AllByRecursion}
use Rattle.std.proofs.lemmas.List.{length-map}
use Rattle.slot_order.proofs.Lists.{all_append}
use Rattle.slot_pool.specs.Arrangement.{Slots}
use Rattle.rule_model.specs.declared.Rule.{Rule}
use Rattle.rule_store.specs.declared.Mode.{Mode}
use Rattle.rule_store.specs.declared.Command.{Command}
use Rattle.placement.specs.declared.LivePiece.{LivePiece}
use Rattle.tcam_device.specs.declared.Write.{Write}
use Rattle.tcam_device.specs.State.{IsState, State, IsInUse, on_device}
use Rattle.tcam_device.specs.Insertion.{IsUncrossed}
use Rattle.tcam_device.proofs.Wider.{slots-after}
use Rattle.commit_writes.specs.Proposal.{proposal}
use Rattle.commit_writes.specs.declared.Done.{Done}
use Rattle.commit_writes.specs.declared.Rewrite.{Rewrite}
use Rattle.commit_writes.specs.Bits.{FieldBits, bits_with}
use Rattle.commit_writes.specs.Routes.{prefix_lengths}
use Rattle.commit_writes.specs.Shape.{set_pieces, inserted_pieces, fresh_writes}
use Rattle.commit_writes.specs.Planned.{IdEntries, Planned, held_entry}
use Rattle.commit_writes.specs.PlannedBatch.{batch_writes, IsPlannedBatch, IsPlannedSegment, AreNumbersOf}
use Rattle.commit_writes.specs.Serving.{AreBitsOf, HaveFreeBits}
use Rattle.commit_writes.proofs.BatchRules.{change_of}
use Rattle.commit_writes.proofs.BatchRow.{row_of}
use Rattle.commit_writes.proofs.Ordered.{planned_first}
use Rattle.commit_writes.proofs.Front.{fresh_state, front_in_use, front_insertions, front_numbers, front_segment}
use Rattle.commit_writes.proofs.WholeBatch.{slot_writes, slot_numbers, in_use}
use Rattle.commit_writes.proofs.Wider.{IsPlannedSegment-padded}

module _ (mode : Mode) (bits : FieldBits) (rules : List Rule) (batch : List Command) (state : State) (live : List LivePiece) (slots : Slots) (entries : IdEntries) (planned : List Planned) (rewrites : List Rewrite) (erased : List ℕ) where
  abbrev during : FieldBits
  during = bits_with mode rules batch bits

  abbrev tables : List Write
  tables = fresh_writes mode bits rules batch state

  abbrev behind : State
  behind = fresh_state mode bits rules batch state

  abbrev made : List Write
  made = batch_writes entries slots planned rewrites erased

  segment_of : (counts : Done) → IsState (length state.slots) state → AreBitsOf mode bits rules state → HaveFreeBits mode rules batch
      → IsPlannedBatch (proposal mode during rules batch) behind live slots entries planned rewrites erased → AreNumbersOf (tables ++ made) planned counts
      → IsPlannedSegment mode bits rules batch state (tables ++ made) counts
  segment_of counts is are free plan numbers =
      let writes = slot_writes mode during behind rules batch live slots entries planned rewrites erased plan in
      let sizes = slot_numbers mode during behind rules batch live slots entries planned rewrites erased plan in
      let ordered = planned_first behind (set_pieces mode during rules) (inserted_pieces mode during rules batch) live slots entries planned
      (row_of mode during behind rules batch live slots entries planned rewrites erased plan) in
      record {
        segment = front_segment mode bits rules batch state made (change_of mode during behind rules batch live slots entries planned rewrites erased plan)
            (record { is_state = is; changes = plan.changes; are = are; few = free }) ordered writes;
        numbers = front_numbers mode bits rules batch state made planned counts numbers sizes.0 sizes.1;
        uncrossed = λ version routes added. subst (IsUncrossed (prefix_lengths version)) (sym (front_insertions mode bits rules batch state made)) (writes.uncrossed version routes added);
      }

  -- they write slots of the arrangement only
  all_in_use : IsPlannedBatch (proposal mode during rules batch) behind live slots entries planned rewrites erased → AllByRecursion (IsInUse (length state.slots)) (tables ++ made)
  all_in_use plan =
      all_append (IsInUse (length state.slots)) tables made (front_in_use mode bits rules batch state (length state.slots))
      (subst (λ size. AllByRecursion (IsInUse size) made) size (in_use mode during behind rules batch live slots entries planned rewrites erased plan))
    where
      size : length slots ≡ length state.slots
      size = sym (ap length plan.mirrors ∙ length-map slots (held_entry entries)) ∙ slots-after state tables

-- so on every device with so many slots or more
pub batch_segment : (mode : Mode) (bits : FieldBits) (rules : List Rule) (batch : List Command) (state : State) (live : List LivePiece) (slots : Slots) (entries : IdEntries) (planned : List Planned)
    (rewrites : List Rewrite) (erased : List ℕ) (counts : Done) (device_slots : ℕ) → IsState (length state.slots) state → AreBitsOf mode bits rules state → HaveFreeBits mode rules batch
    → IsPlannedBatch (proposal mode (bits_with mode rules batch bits) rules batch) (fresh_state mode bits rules batch state) live slots entries planned rewrites erased
    → AreNumbersOf (fresh_writes mode bits rules batch state ++ batch_writes entries slots planned rewrites erased) planned counts
    → IsPlannedSegment mode bits rules batch (on_device device_slots state) (fresh_writes mode bits rules batch state ++ batch_writes entries slots planned rewrites erased) counts
batch_segment mode bits rules batch state live slots entries planned rewrites erased counts device_slots is are free plan numbers =
    IsPlannedSegment-padded (device_slots - length state.slots) mode bits rules batch state (fresh_writes mode bits rules batch state ++ batch_writes entries slots planned rewrites erased) counts
    (all_in_use mode bits rules batch state live slots entries planned rewrites erased plan)
    (segment_of mode bits rules batch state live slots entries planned rewrites erased counts is are free plan numbers)
