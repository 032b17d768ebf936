-- The writes of a planned batch: their shape, their bounds and their numbers.
use Rattle.std.proofs.Common.{◌≡◌, ℕ, Some, ◌≤◌, ◌+◌, ◌*◌, List, [], ◌∷◌, ◌++◌, length, map, refl, sym, subst, ap, arith, length-append}
use Rattle.std.specs.List.{AllByRecursion, AllZip}
use Rattle.std.proofs.lemmas.List.{length-map}
use Rattle.slot_pool.specs.Arrangement.{Slots}
use Rattle.rule_model.specs.declared.Rule.{Rule}
use Rattle.rule_model.specs.declared.IpVersion.{IpVersion}
use Rattle.rule_model.specs.RuleSet.{BoundsChains}
use Rattle.rule_store.specs.declared.Command.{Command}
use Rattle.rule_store.specs.declared.Mode.{Mode}
use Rattle.rule_store.specs.Batch.{additions}
use Rattle.rule_model.specs.Entry.{RankedPiece}
use Rattle.placement.specs.declared.LivePiece.{LivePiece}
use Rattle.tcam_device.specs.declared.Write.{Write}
use Rattle.tcam_device.specs.declared.Write.TheVariants.{Slot}
use Rattle.tcam_device.specs.State.{State, state_after}
use Rattle.tcam_device.specs.Insertion.{insertions, table_writes, IsWithinTightBound, IsUncrossed}
use Rattle.tcam_device.proofs.Spans.{state_after-append}
use Rattle.commit_writes.specs.Proposal.{proposal}
use Rattle.commit_writes.specs.declared.Rewrite.{Rewrite}
use Rattle.commit_writes.specs.Bits.{FieldBits}
use Rattle.commit_writes.specs.Shape.{set_pieces, inserted_pieces, rewritten_pieces, erased_pieces, Rewrites, Erases, due_of, HasShape}
use Rattle.commit_writes.specs.Routes.{IsRoute, prefix_lengths}
use Rattle.commit_writes.specs.Planned.{IdEntries, Planned, IsPlannedRow, planned_writes, slots_after}
use Rattle.commit_writes.specs.PlannedBatch.{home_slot, rewrite_write, erase_write, batch_writes, IsIdOf, IsRewriteOf, IsPlannedBatch}
use Rattle.commit_writes.proofs.SlotWrites.{no_table, batch_slots}
use Rattle.commit_writes.proofs.Segment.{planned_whole, planned_pieces, planned_tight, planned_uncrossed, planned_few}
use Rattle.commit_writes.proofs.BatchRow.{row_of}
use Rattle.commit_writes.proofs.BatchRules.{change_of}
use Rattle.commit_writes.proofs.Routes.{row_chains, row_nested, row_short}
use Rattle.commit_writes.proofs.BatchStands.{AllStand, batch_stand_first, batch_stand_on, batch_rewrites, batch_insertions}

-- pairs of one list and what the other maps to
zip_map : {X Y B : Type 0} (R : X → Y → Type 0) (P : X → B → Type 0) (g : Y → B) (xs : List X) (ys : List Y) → ((x : X) (y : Y) → R x y → P x (g y)) → AllZip R xs ys → AllZip P xs (map g ys)
zip_map R P g [] [] each zip = tt
zip_map R P g [] (y ∷ ys) each zip = absurd zip
zip_map R P g (x ∷ xs) [] each zip = absurd zip
zip_map R P g (x ∷ xs) (y ∷ ys) each zip = (each x y zip.0, zip_map R P g xs ys each zip.1)

module _ (mode : Mode) (bits : FieldBits) (state : State) (rules : List Rule) (batch : List Command) (live : List LivePiece) (slots : Slots) (entries : IdEntries) (planned : List Planned) (rewrites : List Rewrite) (erased : List ℕ) (plan : IsPlannedBatch (proposal mode bits rules batch) state live slots entries planned rewrites erased) where
  abbrev old : List RankedPiece
  old = set_pieces mode bits rules

  abbrev added : List RankedPiece
  added = inserted_pieces mode bits rules batch

  abbrev after : Slots
  after = slots_after slots planned

  abbrev inserted : List Write
  inserted = planned_writes entries planned

  abbrev made : List Write
  made = batch_writes entries slots planned rewrites erased

  makes : insertions state made ≡ insertions state inserted
  makes = batch_insertions mode bits state rules batch live slots entries planned rewrites erased plan

  row : IsPlannedRow state old added live slots entries planned
  row = row_of mode bits state rules batch live slots entries planned rewrites erased plan

  -- each new result is written where its piece's entry stands,
  results : AllZip (Rewrites (state_after state inserted)) (rewritten_pieces mode bits rules batch) (map (rewrite_write after) rewrites)
  results =
      zip_map (IsRewriteOf live) (Rewrites (state_after state inserted)) (rewrite_write after) (rewritten_pieces mode bits rules batch) rewrites
      (λ ranked rewrite is. (
        home_slot after rewrite.id,
        batch_stand_first mode bits state rules batch live slots entries planned rewrites erased plan ranked rewrite.id is.0,
        ap (λ entry. Slot (home_slot after rewrite.id) (Some entry)) is.1,
      ))
      plan.rewrites_are

  -- and each piece that goes is erased where its entry stands
  erases : AllZip (Erases (state_after state (inserted ++ map (rewrite_write after) rewrites))) (erased_pieces mode bits rules batch) (map (erase_write after) erased)
  erases =
      zip_map (IsIdOf live) (Erases (state_after state (inserted ++ map (rewrite_write after) rewrites))) (erase_write after) (erased_pieces mode bits rules batch) erased
      (λ ranked id is. (home_slot after id, stand ranked id is, refl)) plan.erased_are
    where
      stand : AllStand live after (state_after state (inserted ++ map (rewrite_write after) rewrites))
      stand = subst (AllStand live after) (sym (state_after-append state inserted (map (rewrite_write after) rewrites)))
          (batch_stand_on mode bits state rules batch live slots entries planned rewrites erased plan rewrites (state_after state inserted)
          (batch_rewrites mode bits state rules batch live slots entries planned rewrites erased plan) (batch_stand_first mode bits state rules batch live slots entries planned rewrites erased plan))

  -- so they have the shape of a commit's slot writes,
  pub batch_shape : HasShape [] (due_of mode bits rules batch) state (batch_writes entries slots planned rewrites erased)
  batch_shape = record {
    inserted = planned_writes entries planned;
    rewritten = map (rewrite_write after) rewrites;
    erased = map (erase_write after) erased;
    parts = refl;
    whole = planned_whole state old added live slots entries planned row;
    entries = planned_pieces state old added live slots entries planned row;
    results = results;
    erases = erases;
  }

  -- keep the tight bound,
  pub batch_tight : (chain : ℕ) → BoundsChains (rules ++ additions batch) chain
      → IsWithinTightBound chain (insertions state (batch_writes entries slots planned rewrites erased))
  batch_tight chain bounds =
      subst (IsWithinTightBound chain) (sym makes)
      (planned_tight state old added live slots entries planned chain row (row_chains mode bits rules batch (change_of mode bits state rules batch live slots entries planned rewrites erased plan) chain bounds))

  -- cross nothing where all rules are routes,
  pub batch_uncrossed : (version : IpVersion) → AllByRecursion (IsRoute version) rules → AllByRecursion (IsRoute version) (additions batch)
      → IsUncrossed (prefix_lengths version) (insertions state (batch_writes entries slots planned rewrites erased))
  batch_uncrossed version routes adds =
      let change = change_of mode bits state rules batch live slots entries planned rewrites erased plan in
      subst (IsUncrossed (prefix_lengths version)) (sym makes)
      (planned_uncrossed (prefix_lengths version) state old added live slots entries planned row (row_nested mode bits rules batch version change routes adds) (row_short mode bits rules batch version change routes adds))

  -- write no table,
  pub batch_tables : table_writes (batch_writes entries slots planned rewrites erased) ≡ 0
  batch_tables = no_table made (batch_slots entries slots planned rewrites erased)

  -- and are few
  pub batch_few : length (batch_writes entries slots planned rewrites erased) ≤ length slots * (1 + length slots) * length planned + length rewrites + length erased
  batch_few =
      let few = planned_few state old added live slots entries planned row in
      let all = length-append inserted (map (rewrite_write after) rewrites ++ map (erase_write after) erased) in
      let later = length-append (map (rewrite_write after) rewrites) (map (erase_write after) erased) in
      let changes = length-map rewrites (rewrite_write after) in
      let goes = length-map erased (erase_write after) in
      omega (arith, few, all, later, changes, goes)
