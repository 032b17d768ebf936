-- A planned batch's writes are the slot writes of a commit: hitless, in order, of their shape and within their bounds.
use Rattle.std.proofs.Common.{◌≡◌, ◌<◌, ℕ, List, [], ◌∷◌, ◌++◌, fold, length, map, max, ap, ◌∙◌, sym, subst}
use Rattle.std.specs.List.{AllByRecursion, AllZip}
use Rattle.slot_order.proofs.Lists.{all_append}
use Rattle.slot_order.proofs.Writes.{slot_inside}
use Rattle.slot_pool.specs.Arrangement.{Slots}
use Rattle.rule_model.specs.declared.Rule.{Rule}
use Rattle.rule_store.specs.declared.Command.{Command}
use Rattle.rule_store.specs.declared.Mode.{Mode}
use Rattle.rule_model.specs.Entry.{RankedPiece}
use Rattle.placement.specs.declared.LivePiece.{LivePiece}
use Rattle.tcam_device.specs.declared.Write.{Write}
use Rattle.tcam_device.specs.State.{State, IsInUse}
use Rattle.tcam_device.specs.Insertion.{Insertion, insertions, longest_insertion, IsGreatestSpan}
use Rattle.commit_writes.specs.Proposal.{proposal}
use Rattle.commit_writes.specs.Bits.{FieldBits}
use Rattle.commit_writes.specs.Shape.{set_pieces, inserted_pieces, erased_pieces}
use Rattle.commit_writes.specs.declared.Rewrite.{Rewrite}
use Rattle.commit_writes.specs.Planned.{IdEntries, Planned, IsPlannedRow, planned_writes, slots_after, longest_planned, greatest_planned}
use Rattle.commit_writes.specs.PlannedBatch.{home_slot, rewrite_write, erase_write, batch_writes, IsIdOf, IsPlannedBatch, AreSlotWrites}
use Rattle.commit_writes.proofs.InUse.{planned_in_use, slots_kept}
use Rattle.commit_writes.proofs.BatchRow.{row_of}
use Rattle.commit_writes.proofs.Segment.{planned_longest, planned_span}
use Rattle.commit_writes.proofs.BatchStands.{AreIdRewrites, batch_home, batch_rewrites, batch_insertions}
use Rattle.commit_writes.proofs.BatchSegment.{batch_shape, batch_tight, batch_uncrossed, batch_tables}
use Rattle.commit_writes.proofs.Hitless.{batch_hitless, batch_turns}
use Rattle.commit_writes.proofs.KeepsOrder.{batch_keeps}

module _ (mode : Mode) (bits : FieldBits) (state : State) (rules : List Rule) (batch : List Command) (live : List LivePiece) (slots : Slots) (entries : IdEntries) (planned : List Planned) (rewrites : List Rewrite) (erased : List ℕ) where
  abbrev after : Slots
  after = slots_after slots planned

  abbrev made : List Write
  made = batch_writes entries slots planned rewrites erased

  -- the writes of a planned batch are the slot writes of a commit,
  pub slot_writes : IsPlannedBatch (proposal mode bits rules batch) state live slots entries planned rewrites erased
      → AreSlotWrites mode bits rules batch state (batch_writes entries slots planned rewrites erased)
  slot_writes plan = record {
    hitless = batch_hitless mode bits state rules batch live slots entries planned rewrites erased plan;
    turns = batch_turns mode bits state rules batch live slots entries planned rewrites erased plan;
    order = batch_keeps mode bits state rules batch live slots entries planned rewrites erased plan;
    shape = batch_shape mode bits state rules batch live slots entries planned rewrites erased plan;
    tight = batch_tight mode bits state rules batch live slots entries planned rewrites erased plan;
    slots_only = batch_tables mode bits state rules batch live slots entries planned rewrites erased plan;
    uncrossed = batch_uncrossed mode bits state rules batch live slots entries planned rewrites erased plan;
  }

  -- have the numbers of their plan,
  pub slot_numbers : IsPlannedBatch (proposal mode bits rules batch) state live slots entries planned rewrites erased
      → (longest_insertion state (batch_writes entries slots planned rewrites erased) ≡ longest_planned planned)
      × IsGreatestSpan (insertions state (batch_writes entries slots planned rewrites erased)) (greatest_planned planned)
  slot_numbers plan = (
    ap (λ (all : List Insertion). fold max 0 (map (λ (insertion : Insertion). length insertion.writes) all)) makes ∙ planned_longest state old inserted live slots entries planned row,
    subst (λ (all : List Insertion). IsGreatestSpan all (greatest_planned planned)) (sym makes) (planned_span state old inserted live slots entries planned row),
  )
    where
      old : List RankedPiece
      old = set_pieces mode bits rules

      inserted : List RankedPiece
      inserted = inserted_pieces mode bits rules batch

      row : IsPlannedRow state old inserted live slots entries planned
      row = row_of mode bits state rules batch live slots entries planned rewrites erased plan

      makes : insertions state made ≡ insertions state (planned_writes entries planned)
      makes = batch_insertions mode bits state rules batch live slots entries planned rewrites erased plan

  -- and write slots of the arrangement only,
  home_inside : (plan : IsPlannedBatch (proposal mode bits rules batch) state live slots entries planned rewrites erased) (ranked : RankedPiece) (id : ℕ) → IsIdOf live ranked id → home_slot after id < length slots
  home_inside plan ranked id is =
      subst (λ n. home_slot after id < n) (slots_kept slots planned)
      (slot_inside after (home_slot after id) id (batch_home mode bits state rules batch live slots entries planned rewrites erased plan ranked id is))

  pub in_use : IsPlannedBatch (proposal mode bits rules batch) state live slots entries planned rewrites erased → AllByRecursion (IsInUse (length slots)) made
  in_use plan =
      all_append (IsInUse (length slots)) (planned_writes entries planned) (map (rewrite_write after) rewrites ++ map (erase_write after) erased)
      (planned_in_use live slots entries planned plan.are_planned)
      (all_append (IsInUse (length slots)) (map (rewrite_write after) rewrites) (map (erase_write after) erased)
      (changed rewrites (batch_rewrites mode bits state rules batch live slots entries planned rewrites erased plan)) (gone (erased_pieces mode bits rules batch) erased plan.erased_are))
    where
      changed : (some : List Rewrite) → AreIdRewrites live some → AllByRecursion (IsInUse (length slots)) (map (rewrite_write after) some)
      changed [] are = tt
      changed (first ∷ some) are = (home_inside plan are.0.0 first.id are.0.1.0, changed some are.1)

      gone : (pieces : List RankedPiece) (ids : List ℕ) → AllZip (IsIdOf live) pieces ids → AllByRecursion (IsInUse (length slots)) (map (erase_write after) ids)
      gone [] [] zip = tt
      gone [] (id ∷ ids) zip = absurd zip
      gone (ranked ∷ pieces) [] zip = absurd zip
      gone (ranked ∷ pieces) (id ∷ ids) zip = (home_inside plan ranked id zip.0, gone pieces ids zip.1)
