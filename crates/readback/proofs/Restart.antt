-- A planned restart goes on to the new set, on each device with the slots in use or more.
use Rattle.std.proofs.Common.{◌≡◌, ℕ, ◌+◌, ◌-◌, ◌≤◌, Option, None, List, ◌++◌, length, map, take, append_assoc, inl, inr, refl, sym, ◌∙◌, subst, ap, arith, le_refl}
use Rattle.std.specs.Prelude.{IsFalse, flat_map}
use Rattle.std.specs.List.{AllZip, filter_map}
use Rattle.std.proofs.lemmas.Bool.{cases_lt}
use Rattle.std.proofs.lemmas.List.{take_all, take-append-le}
use Rattle.std.proofs.Math.Seq.{take-append-add}
use Rattle.slot_order.proofs.Lists.{all_append}
use Rattle.slot_pool.specs.Arrangement.{Slots}
use Rattle.rule_model.specs.declared.Rule.{Rule}
use Rattle.rule_model.specs.RuleSet.{BoundsChains}
use Rattle.rule_store.specs.declared.Mode.{Mode}
use Rattle.rule_store.specs.declared.Command.{Command}
use Rattle.rule_store.specs.Batch.{additions}
use Rattle.rule_model.specs.Entry.{entry_for}
use Rattle.placement.specs.declared.LivePiece.{LivePiece}
use Rattle.tcam_device.specs.declared.Write.{Write}
use Rattle.tcam_device.specs.State.{State, IsState, state_after, on_device}
use Rattle.tcam_device.specs.Insertion.{Insertion, insertions, is_table_write, AreBoundedBy, IsWithinTightBound}
use Rattle.tcam_device.proofs.Spans.{state_after-append}
use Rattle.tcam_device.proofs.Wider.{padded, all_take, state_after-padded}
use Rattle.tcam_device.proofs.WiderInsertions.{insertions-padded, AreBoundedBy-widened}
use Rattle.commit_writes.specs.Proposal.{proposal}
use Rattle.commit_writes.specs.declared.Rewrite.{Rewrite}
use Rattle.commit_writes.specs.Bits.{FieldBits}
use Rattle.commit_writes.specs.Shape.{Rewrites, Erases, fresh_writes, HasShape, insertions_behind}
use Rattle.commit_writes.specs.Planned.{IdEntries, Planned}
use Rattle.commit_writes.specs.PlannedBatch.{batch_writes}
use Rattle.commit_writes.proofs.ServedTables.{IsBitsStart, words_state}
use Rattle.commit_writes.proofs.SlotWrites.{AreToSlots, batch_slots}
use Rattle.readback.specs.Halt.{halt_at, parts_as_planned}
use Rattle.readback.specs.Tasks.{Task, CommitPieces, commit_pieces}
use Rattle.readback.specs.Going.{GoesOn, due_in, restart_front, twin_writes, inserted_by, rewritten_by, erased_by}
use Rattle.readback.specs.Laws.{KeepsRest, PassesStages}
use Rattle.readback.proofs.Begun.{begun}
use Rattle.readback.proofs.Rest.{AreRest}
use Rattle.readback.proofs.Stages.{stages_answer, last_stages_answer, rests_pass}
use Rattle.readback.specs.PlannedRest.{restart_writes, PlannedRestsPassStages}
use Rattle.readback.specs.Restart.{IsPlannedRestart, PlannedRestartsGoOn}
use Rattle.readback.proofs.BegunRests.{Begun}
use Rattle.readback.proofs.PlannedRests.{inserting, telling, erasing, rest, in_use, keeps, tight}
use Rattle.readback.proofs.Started.{started, front_inside, slots_state, twin_to_slots}
use Rattle.readback.proofs.Wider.{AreRest-padded, KeepsRest-padded}

module _ (device_slots : ℕ) (mode : Mode) (bits : FieldBits) (rules : List Rule) (batch : List Command) (state : State) (done left : List Task) (twin : Option ℕ)
    (live : List LivePiece) (slots : Slots) (entries : IdEntries) (planned : List Planned) (rewrites : List Rewrite) (erased : List ℕ)
    (plan : IsPlannedRestart device_slots (proposal mode bits rules batch) state (halt_at done left twin) live slots entries (parts_as_planned planned rewrites erased)) where
  abbrev b : Begun
  b = started device_slots mode bits rules batch state done left twin live slots entries planned rewrites erased plan

  abbrev more : ℕ
  more = device_slots - length state.slots

  abbrev wide : State
  wide = on_device device_slots state

  abbrev p : CommitPieces
  p = commit_pieces mode bits rules batch

  abbrev tables : List Write
  tables = fresh_writes mode bits rules batch state

  abbrev slot_part : List Write
  slot_part = batch_writes entries slots planned rewrites erased

  abbrev writes : List Write
  writes = restart_writes (proposal mode bits rules batch) state twin entries slots planned rewrites erased

  -- where the rest begins, on the device
  abbrev there : State
  there = padded more b.start

  pub reached : state_after (on_device device_slots state) (fresh_writes mode bits rules batch state ++ twin_writes twin)
      ≡ padded (device_slots - length state.slots) (started device_slots mode bits rules batch state done left twin live slots entries planned rewrites erased plan).start
  reached =
      state_after-padded more state (tables ++ twin_writes twin) (front_inside device_slots mode bits rules batch state done left twin live slots entries planned rewrites erased plan)
      ∙ ap (padded more) (state_after-append state tables (twin_writes twin))

  behind_front : (some : List Write) → state_after wide (tables ++ twin_writes twin ++ some) ≡ state_after there some
  behind_front some = state_after-append wide (tables ++ twin_writes twin) some ∙ ap (λ (now : State). state_after now some) reached

  pub behind_all : (some : List Write) → state_after wide (tables ++ (twin_writes twin ++ some)) ≡ state_after there some
  behind_all some = ap (state_after wide) (sym (append_assoc tables (twin_writes twin) some)) ∙ behind_front some

  wide_rest : AreRest p there left (inserting b) (telling b) (erasing b)
  wide_rest = AreRest-padded more p b.start left (inserting b) (telling b) (erasing b) (in_use b) (rest b)

  wide_keeps : KeepsRest (length slots) p there left (inserting b)
  wide_keeps = KeepsRest-padded more p b.start left (inserting b) (telling b) (erasing b) (in_use b) (length slots) (keeps b)

  pub shape : HasShape (restart_front mode bits rules batch (on_device device_slots state) twin) (due_in left) (on_device device_slots state) (restart_writes (proposal mode bits rules batch) state twin entries slots planned rewrites erased)
  shape = record {
    inserted = inserting b;
    rewritten = telling b;
    erased = erasing b;
    parts = sym (append_assoc tables (twin_writes twin) slot_part);
    whole = subst (λ (now : State). flat_map (λ (one : Insertion). one.writes) (insertions now (inserting b)) ≡ inserting b) (sym reached) wide_rest.whole;
    entries = subst (λ (now : State). map (λ (one : Insertion). one.entry) (insertions now (inserting b)) ≡ map entry_for (filter_map inserted_by left)) (sym reached) wide_rest.entries;
    results = subst (λ (now : State). AllZip (Rewrites now) (filter_map rewritten_by left) (telling b)) (sym (behind_front (inserting b))) wide_rest.results;
    erases = subst (λ (now : State). AllZip (Erases now) (filter_map erased_by left) (erasing b))
        (sym (state_after-append wide (tables ++ twin_writes twin ++ inserting b) (telling b) ∙ ap (λ (now : State). state_after now (telling b)) (behind_front (inserting b)))) wide_rest.erases;
  }

  wide_is : IsState (length wide.slots) wide
  wide_is = record { size = refl; src_size = plan.is_state.src_size; dst_size = plan.is_state.dst_size; src_words = plan.is_state.src_words; dst_words = plan.is_state.dst_words }

  pub passes : PassesStages (length slots) mode bits rules batch (on_device device_slots state) (restart_writes (proposal mode bits rules batch) state twin entries slots planned rewrites erased)
  unfolding shape
  passes = rests_pass (length slots) (length wide.slots) mode bits rules batch wide done left twin writes plan.can wide_is plan.stage plan.is_twin shape
      (subst (λ (now : State). KeepsRest (length slots) p now left (inserting b)) (sym reached) wide_keeps)

  pub within : (chain : ℕ) → BoundsChains (rules ++ additions batch) chain → IsWithinTightBound chain (insertions_behind shape)
  unfolding shape
  within chain bounds = subst (λ (now : State). IsWithinTightBound chain (insertions now slot_part)) (sym reached)
      (subst (AreBoundedBy _) (sym (insertions-padded more b.start slot_part (in_use b))) (AreBoundedBy-widened more _ (insertions b.start slot_part) (tight b chain bounds)))

  -- it is a state all along
  pub wide_start : IsBitsStart mode bits rules batch wide
  wide_start = begun mode bits rules batch (length wide.slots) wide plan.can wide_is plan.stage.old_words

  pub to_slots : AreToSlots (twin_writes twin ++ slot_part)
  to_slots = all_append (λ write. IsFalse (is_table_write write)) (twin_writes twin) slot_part (twin_to_slots twin) (batch_slots entries slots planned rewrites erased)

  pub seam : (n : ℕ) → length tables ≤ n → state_after wide (take n writes) ≡ state_after (state_after wide tables) (take (n - length tables) (twin_writes twin ++ slot_part))
  seam n long =
      ap (λ m. state_after wide (take m writes)) (let e : n ≡ length tables + (n - length tables) = omega arith in e)
      ∙ (ap (state_after wide) (take-append-add tables (twin_writes twin ++ slot_part) (n - length tables)) ∙ state_after-append wide tables (take (n - length tables) (twin_writes twin ++ slot_part)))

  words_are : IsState (length wide.slots) (state_after wide tables)
  words_are = subst (λ (some : List Write). IsState (length wide.slots) (state_after wide some)) (take_all (length tables) tables (le_refl (length tables)))
      (words_state mode bits rules batch wide wide_start (length tables))

  pub sized : (n : ℕ) → IsState (length wide.slots) (state_after wide (take n writes))
  sized n = elim (cases_lt n (length tables)) [
    | inl short ↦ subst (λ (some : List Write). IsState (length wide.slots) (state_after wide some)) (sym (take-append-le n tables (twin_writes twin ++ slot_part) (omega arith)))
        (words_state mode bits rules batch wide wide_start n)
    | inr long ↦ subst (IsState (length wide.slots)) (sym (seam n long))
        (slots_state (length wide.slots) (state_after wide tables) (take (n - length tables) (twin_writes twin ++ slot_part))
        (all_take (λ write. IsFalse (is_table_write write)) (n - length tables) (twin_writes twin ++ slot_part) to_slots) words_are)
  ]

  pub sized_last : IsState (length wide.slots) (state_after wide writes)
  sized_last = subst (λ (all : List Write). IsState (length wide.slots) (state_after wide all)) (take_all (length writes) writes (le_refl (length writes))) (sized (length writes))

  pub goes_on : GoesOn (length slots) mode bits rules batch (on_device device_slots state) left twin (restart_writes (proposal mode bits rules batch) state twin entries slots planned rewrites erased)
  goes_on = record {
    shape = shape;
    stages = passes.stages;
    during = λ n. stages_answer (length slots) (length wide.slots) mode bits rules batch (state_after wide (take n writes)) plan.can (sized n) (passes.stages n);
    ended = passes.ended;
    alone = passes.alone;
    after = last_stages_answer (length slots) (length wide.slots) mode bits rules batch (state_after wide writes) passes.ended.0 plan.can sized_last passes.ended.1;
    tight = within;
  }

pub restarts_go_on : PlannedRestartsGoOn
restarts_go_on device_slots mode bits rules batch state done left twin live slots entries planned rewrites erased plan =
    goes_on device_slots mode bits rules batch state done left twin live slots entries planned rewrites erased plan

-- and so does a planned rest, where there is no twin
pub rests_planned : PlannedRestsPassStages
rests_planned mode bits rules batch state device_slots done left live slots entries planned rewrites erased can is stage alone rest =
    let plan : IsPlannedRestart device_slots (proposal mode bits rules batch) state (halt_at done left None) live slots entries (parts_as_planned planned rewrites erased) = record { can = can; is_state = is; stage = stage; is_twin = alone; rest = rest } in
    record {
      shape = shape device_slots mode bits rules batch state done left None live slots entries planned rewrites erased plan;
      passes = passes device_slots mode bits rules batch state done left None live slots entries planned rewrites erased plan;
      tight = within device_slots mode bits rules batch state done left None live slots entries planned rewrites erased plan;
    }
