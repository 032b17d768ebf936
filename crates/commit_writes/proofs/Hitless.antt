-- The writes of a planned batch are hitless: after each of them every key has its best rule of the old set or of the new one;
-- and where no rule is replaced, it turns from the one to the other once.
use Rattle.std.proofs.Common.{sym, ◌≡◌, ℕ, suc, ◌≤◌, List, length, take, Contains, Option, option_map, inl, inr, ap, ◌∙◌}
use Rattle.std.proofs.Math.Seq.{take-length}
use Rattle.std.specs.Prelude.{IsFalse}
use Rattle.std.specs.List.{AllByRecursion}
use Rattle.std.proofs.lemmas.List.Elements.{Contains-append_left}
use Rattle.slot_order.proofs.Lists.{AllByRecursion-member}
use Rattle.slot_pool.specs.Arrangement.{Slots}
use Rattle.rule_model.specs.declared.Key.{Key}
use Rattle.rule_model.specs.declared.Rule.{Rule}
use Rattle.rule_model.specs.Key.{IsKey}
use Rattle.rule_model.specs.Rule.{HasConditions}
use Rattle.rule_model.specs.RuleSet.{IsRuleSet, answer}
use Rattle.rule_model.proofs.RuleSets.{IsRuleSet-distinct}
use Rattle.rule_store.specs.declared.Command.{Command}
use Rattle.rule_store.specs.Batch.{set_after}
use Rattle.rule_store.specs.declared.Mode.{Mode}
use Rattle.rule_model.specs.Entry.{RankedPiece, entry_for}
use Rattle.placement.specs.declared.LivePiece.{LivePiece}
use Rattle.tcam_device.specs.declared.Write.{Write}
use Rattle.tcam_device.specs.State.{State, Shows, state_after, lookup, told}
use Rattle.tcam_device.specs.Hitless.{ShowsOldOrNew, IsHitless, TurnsOnce}
use Rattle.tcam_device.proofs.Lookups.{HitAsPieces}
use Rattle.tcam_device.specs.Insertion.{is_table_write}
use Rattle.tcam_device.proofs.Shown.{ordered_shows}
use Rattle.tcam_device.proofs.Wider.{all_take}
use Rattle.commit_writes.specs.Proposal.{proposal}
use Rattle.commit_writes.specs.declared.Rewrite.{Rewrite}
use Rattle.commit_writes.specs.Bits.{FieldBits}
use Rattle.commit_writes.specs.Commit.{ReplacesNone}
use Rattle.commit_writes.specs.Shape.{set_pieces, inserted_pieces}
use Rattle.commit_writes.specs.Planned.{IsServedBy, IsPlannedRow, IdEntries, Planned, planned_writes}
use Rattle.commit_writes.specs.PlannedBatch.{batch_writes, IsPlannedBatch}
use Rattle.commit_writes.proofs.BatchRow.{row_of}
use Rattle.commit_writes.proofs.SlotWrites.{AreToSlots, tables_left, batch_slots}
use Rattle.commit_writes.proofs.BatchRules.{IsSoundChange, change_of, right_after, set_after-is}
use Rattle.commit_writes.proofs.BatchStages.{IsStage, batch_stage, batch_onward, batch_last}
use Rattle.commit_writes.proofs.BatchTurns.{way_disjoint}
use Rattle.commit_writes.proofs.SetPieces.{set_pieces-of}
use Rattle.commit_writes.proofs.OnTheWay.{IsBestPiece, IsFound, best_answers, found_on_the_way}
use Rattle.commit_writes.proofs.BatchPieces.{row_pieces, after_served}
use Rattle.commit_writes.proofs.Mirror.{hits_after, served_hits}
use Rattle.commit_writes.proofs.Ordered.{planned_first}
use Rattle.commit_writes.proofs.Turns.{best_stays, one_turn}

module _ (mode : Mode) (bits : FieldBits) (state : State) (rules : List Rule) (batch : List Command) (live : List LivePiece) (slots : Slots) (entries : IdEntries) (planned : List Planned) (rewrites : List Rewrite) (erased : List ℕ) (plan : IsPlannedBatch (proposal mode bits rules batch) state live slots entries planned rewrites erased) where
  abbrev made : List Write
  made = batch_writes entries slots planned rewrites erased

  abbrev now : ℕ → State
  now n = state_after state (take n made)

  abbrev later : List Rule
  later = set_after rules batch

  abbrev old : List RankedPiece
  old = set_pieces mode bits rules

  abbrev new : List RankedPiece
  new = set_pieces mode bits later

  abbrev stage : (n : ℕ) → IsStage old new (now n) (length (planned_writes entries planned) ≤ n)
  stage n = batch_stage mode bits state rules batch live slots entries planned rewrites erased plan n

  change : IsSoundChange rules batch
  change = change_of mode bits state rules batch live slots entries planned rewrites erased plan

  after_set : IsRuleSet later
  after_set = set_after-is rules batch change

  after_right : AllByRecursion HasConditions later
  after_right = right_after rules batch change

  all_slots : AreToSlots made
  all_slots = batch_slots entries slots planned rewrites erased

  row : IsPlannedRow state old (inserted_pieces mode bits rules batch) live slots entries planned
  row = row_of mode bits state rules batch live slots entries planned rewrites erased plan

  -- the tables serve the pieces of both sets at first,
  hits_old : HitAsPieces state (Contains old)
  hits_old = served_hits state (Contains old) plan.is_state (λ ranked member.
      AllByRecursion-member (IsServedBy state) (row_pieces mode bits rules batch) ranked row.served (Contains-append_left old (inserted_pieces mode bits rules batch) ranked member))

  hits_new : HitAsPieces state (Contains new)
  hits_new = served_hits state (Contains new) plan.is_state (λ ranked member.
      AllByRecursion-member (IsServedBy state) new ranked (after_served mode bits state rules batch change plan.serving) member)

  -- and later, as no write is to a table
  hits_now : (n : ℕ) (pieces : List RankedPiece) → HitAsPieces state (Contains pieces) → HitAsPieces (now n) (Contains pieces)
  hits_now n pieces hits =
      let left = tables_left state (take n made) (all_take (λ write. IsFalse (is_table_write write)) n made all_slots) in
      hits_after (Contains pieces) state (now n) hits left.src left.dst

  -- what each key finds after some of the writes,
  found_after : (n : ℕ) (key : Key) → IsKey key → IsFound old new (stage n).standing (now n) key
  found_after n key valid =
      found_on_the_way (now n) old new (stage n).standing key valid (hits_now n old hits_old) (hits_now n new hits_new) (stage n).way (stage n).ordered

  -- and what that tells
  tells_old : (key : Key) (valid : IsKey key) (found : Option RankedPiece) → IsBestPiece old key found → told (option_map entry_for found) ≡ answer rules key
  tells_old key valid found best = best_answers state rules old key valid found (IsRuleSet-distinct rules plan.is_set) (set_pieces-of mode bits rules plan.right) hits_old best

  tells_new : (key : Key) (valid : IsKey key) (found : Option RankedPiece) → IsBestPiece new key found → told (option_map entry_for found) ≡ answer later key
  tells_new key valid found best = best_answers state later new key valid found (IsRuleSet-distinct later after_set) (set_pieces-of mode bits later after_right) hits_new best

  old_or_new : (n : ℕ) → ShowsOldOrNew (now n) rules later
  old_or_new n key valid = let f = found_after n key valid in elim f.either [
    | inl best ↦ inl (f.shows ∙ tells_old key valid f.found best)
    | inr best ↦ inr (f.shows ∙ tells_new key valid f.found best)
  ]

  shows_new : Shows (state_after state made) later
  shows_new =
      ordered_shows (state_after state made) later (Contains new) (IsRuleSet-distinct later after_set) (set_pieces-of mode bits later after_right)
      (let left = tables_left state made all_slots in hits_after (Contains new) state (state_after state made) hits_new left.src left.dst) (batch_last mode bits state rules batch live slots entries planned rewrites erased plan).ordered

  pub batch_hitless : IsHitless rules later state made
  batch_hitless = record {
    on_the_way = record {
      before = ordered_shows state rules (Contains old) (IsRuleSet-distinct rules plan.is_set) (set_pieces-of mode bits rules plan.right) hits_old
          (planned_first state old (inserted_pieces mode bits rules batch) live slots entries planned row);
      during = old_or_new;
    };
    after = shows_new;
  }

  -- where no rule is replaced, a key with the new answer keeps it with the next write: where both answers are one it has no
  -- other, and else it found the best of the new pieces
  turned_stays : ReplacesNone batch → (n : ℕ) (key : Key) → IsKey key → lookup (now n) key ≡ answer later key → lookup (now (suc n)) key ≡ answer later key
  turned_stays none n key valid turned = let f = found_after n key valid in elim f.either [
    | inl best ↦ elim (old_or_new (suc n) key valid) [
      | inl was ↦ was ∙ (sym (tells_old key valid f.found best) ∙ (sym f.shows ∙ turned))
      | inr is ↦ is
    ]
    | inr best ↦
        let next = found_after (suc n) key valid in
        next.shows ∙ tells_new key valid next.found
        (best_stays new (stage n).standing (stage (suc n)).standing key f.found next.found valid (batch_onward mode bits state rules batch live slots entries planned rewrites erased plan n)
        (way_disjoint mode bits state rules batch live slots entries planned rewrites erased plan (stage (suc n)).standing none (stage (suc n)).way (stage (suc n)).single)
        f.best best next.best)
  ]

  -- so its answer turns once
  pub batch_turns : ReplacesNone batch → TurnsOnce rules later state made
  batch_turns none key valid =
      let w = one_turn (λ n. lookup (now n) key) (answer rules key) (answer later key) (length made) (λ n. old_or_new n key valid)
      (λ n turned. turned_stays none n key valid turned) (ap (λ writes. lookup (state_after state writes) key) (take-length made) ∙ shows_new key valid) in
      (w.0, record { before = w.1; since = w.2 })
