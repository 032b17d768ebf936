-- After a planned restart the ids stand as they were planned, and the next commit may begin.
use Rattle.std.proofs.Common.{◌≡◌, ℕ, ◌+◌, ◌-◌, ◌*◌, ◌≤◌, Option, None, Some, List, [], ◌++◌, length, filter, Contains, append_assoc, length-append, arith, refl, sym, ◌∙◌, subst, ap}
use Rattle.std.specs.List.{AllByRecursion}
use Rattle.slot_order.proofs.Lists.{all_append}
use Rattle.slot_pool.specs.Arrangement.{Slots}
use Rattle.rule_model.specs.declared.Rule.{Rule}
use Rattle.rule_store.specs.declared.Mode.{Mode}
use Rattle.rule_store.specs.declared.Command.{Command}
use Rattle.rule_store.specs.Batch.{set_after}
use Rattle.rule_model.specs.declared.words.Entry.{Entry}
use Rattle.rule_model.specs.Entry.{RankedPiece}
use Rattle.placement.specs.declared.LivePiece.{LivePiece}
use Rattle.tcam_device.specs.declared.Write.{Write}
use Rattle.tcam_device.specs.State.{State, IsInUse, IsState, state_after, on_device}
use Rattle.tcam_device.specs.Order.{IsOrdered}
use Rattle.tcam_device.proofs.Spans.{state_after-append}
use Rattle.tcam_device.proofs.Wider.{padded, slot-padded, state_after-padded, slots-after}
use Rattle.commit_writes.specs.Proposal.{proposal}
use Rattle.commit_writes.specs.declared.Rewrite.{Rewrite}
use Rattle.commit_writes.specs.Bits.{FieldBits, bits_with, bits_left}
use Rattle.commit_writes.specs.Planned.{IdEntries, Planned, contents, with_slots, slots_after}
use Rattle.commit_writes.specs.PlannedBatch.{batch_writes, rewritten_entries, erased_slots}
use Rattle.commit_writes.specs.Segments.{IsAtRest}
use Rattle.commit_writes.specs.Shape.{set_pieces, fresh_writes}
use Rattle.commit_writes.proofs.BatchRules.{right_after, set_after-is}
use Rattle.commit_writes.proofs.KeptBits.{pieces_left}
use Rattle.commit_writes.proofs.Mirror.{IsOrdered_same}
use Rattle.commit_writes.proofs.ServedTables.{bits_after}
use Rattle.commit_writes.proofs.SlotWrites.{LeavesTables, tables_left}
use Rattle.readback.specs.Halt.{halt_at, parts_as_planned}
use Rattle.readback.specs.Tasks.{Task, CommitPieces, commit_pieces, known_pieces, is_told_in}
use Rattle.readback.specs.Stage.{IsCommitAt}
use Rattle.readback.specs.Going.{twin_writes}
use Rattle.readback.specs.Laws.{PassesStages}
use Rattle.readback.proofs.Shows.{stage_ordered, arrived}
use Rattle.readback.specs.Ending.{LeadsOn, PlannedRestartsLeadOn, PlannedRestartsComeToRest}
use Rattle.readback.specs.PlannedRest.{restart_writes}
use Rattle.readback.specs.Restart.{IsPlannedRestart}
use Rattle.readback.proofs.BegunRests.{Begun, new_of, facts, leads}
use Rattle.readback.proofs.Ending.{rest_state, rest_entries}
use Rattle.readback.proofs.PlannedRests.{in_use, few}
use Rattle.readback.proofs.Restart.{passes, behind_all, sized_last, wide_start, to_slots}
use Rattle.readback.proofs.Same.{stage_on}
use Rattle.readback.proofs.Started.{started, front_inside}

-- the erase of a twin changes slots alone
same_tables : (state : State) (twin : Option ℕ) (held : List (Option Entry)) → with_slots (state_after state (twin_writes twin)) held ≡ with_slots state held
same_tables state None held = refl
same_tables state (Some at) held = refl

-- it is one write
twin_few : (twin : Option ℕ) → length (twin_writes twin) ≤ 1
twin_few None = omega arith
twin_few (Some at) = omega arith

module _ (device_slots : ℕ) (mode : Mode) (bits : FieldBits) (rules : List Rule) (batch : List Command) (state : State) (done left : List Task) (twin : Option ℕ)
    (live : List LivePiece) (slots : Slots) (entries : IdEntries) (planned : List Planned) (rewrites : List Rewrite) (erased : List ℕ)
    (plan : IsPlannedRestart device_slots (proposal mode bits rules batch) state (halt_at done left twin) live slots entries (parts_as_planned planned rewrites erased)) where
  abbrev b : Begun
  b = started device_slots mode bits rules batch state done left twin live slots entries planned rewrites erased plan

  abbrev more : ℕ
  more = device_slots - length state.slots

  abbrev wide : State
  wide = on_device device_slots state

  abbrev during : FieldBits
  during = bits_with mode rules batch bits

  abbrev later : List Rule
  later = set_after rules batch

  abbrev p : CommitPieces
  p = commit_pieces mode bits rules batch

  abbrev tables : List Write
  tables = fresh_writes mode bits rules batch state

  abbrev slot_part : List Write
  slot_part = batch_writes entries slots planned rewrites erased

  abbrev writes : List Write
  writes = restart_writes (proposal mode bits rules batch) state twin entries slots planned rewrites erased

  -- where the writes lead, on the device and in the slots in use
  abbrev last : State
  last = state_after wide writes

  abbrev end : State
  end = state_after b.start slot_part

  last_is : last ≡ padded more end
  last_is =
      behind_all device_slots mode bits rules batch state done left twin live slots entries planned rewrites erased plan slot_part
      ∙ state_after-padded more b.start slot_part (in_use b)

  passed : PassesStages (length slots) mode bits rules batch wide writes
  passed = passes device_slots mode bits rules batch state done left twin live slots entries planned rewrites erased plan

  ended : IsCommitAt (length slots) mode bits rules batch end passed.ended.0 []
  ended = stage_on (padded more end) end (λ at. sym (slot-padded end.slots more at)) (length slots) bits during p passed.ended.0 [] refl refl
      (subst (λ (now : State). IsCommitAt (length slots) mode bits rules batch now passed.ended.0 []) last_is passed.ended.1)

  narrow_end : state_after state writes ≡ end
  narrow_end =
      ap (state_after state) (sym (append_assoc tables (twin_writes twin) slot_part))
      ∙ (state_after-append state (tables ++ twin_writes twin) slot_part ∙ ap (λ (now : State). state_after now slot_part) (state_after-append state tables (twin_writes twin)))

  size : length b.start.slots ≡ length state.slots
  size = slots-after (state_after state tables) (twin_writes twin) ∙ slots-after state tables

  all_inside : AllByRecursion (IsInUse (length state.slots)) writes
  all_inside =
      subst (AllByRecursion (IsInUse (length state.slots))) (append_assoc tables (twin_writes twin) slot_part)
      (all_append (IsInUse (length state.slots)) (tables ++ twin_writes twin) slot_part
      (front_inside device_slots mode bits rules batch state done left twin live slots entries planned rewrites erased plan)
      (subst (λ n. AllByRecursion (IsInUse n) slot_part) size (in_use b)))

  all_few : length writes ≤ length tables + 1 + (length slots * (1 + length slots) * length planned + length rewrites + length erased)
  all_few =
      let sum = length-append tables (twin_writes twin ++ slot_part) in
      let rest = length-append (twin_writes twin) slot_part in
      let one = twin_few twin in
      let most : length slot_part ≤ length slots * (1 + length slots) * length planned + length rewrites + length erased = few b in
      omega arith

  leads_on : LeadsOn (proposal mode bits rules batch) state live slots entries planned rewrites erased writes
  leads_on = record {
    in_use = all_inside;
    few = all_few;
    leads = narrow_end ∙ (rest_state b
        ∙ same_tables (state_after state tables) twin (contents (rewritten_entries entries rewrites) (erased_slots (slots_after slots planned) erased)));
    entries_are = rest_entries b passed.ended.0 ended;
  }

  -- the tables are those behind the words
  behind : LeavesTables (state_after wide tables) last
  behind =
      subst (LeavesTables (state_after wide tables)) (sym (state_after-append wide tables (twin_writes twin ++ slot_part)))
      (tables_left (state_after wide tables) (twin_writes twin ++ slot_part) (to_slots device_slots mode bits rules batch state done left twin live slots entries planned rewrites erased plan))

  ordered : IsOrdered last (Contains (set_pieces mode during later))
  ordered =
      IsOrdered_same last (Contains (filter (λ x. is_told_in last.slots x) (known_pieces p))) (Contains (set_pieces mode during later))
      (arrived (length slots) bits during p (new_of b) (facts b) (leads b) last passed.ended.0 [] passed.ended.1 refl)
      (stage_ordered (length slots) bits during p (new_of b) (facts b) (leads b) last passed.ended.0 [] passed.ended.1)

  at_rest : IsAtRest mode (bits_left later during) later last
  at_rest =
      let start = wide_start device_slots mode bits rules batch state done left twin live slots entries planned rewrites erased plan in
      record {
        is_set = set_after-is rules batch b.change;
        right = right_after rules batch b.change;
        is_state = subst (λ size. IsState size last) (sym (slots-after wide writes))
            (sized_last device_slots mode bits rules batch state done left twin live slots entries planned rewrites erased plan);
        bits_are = bits_after mode bits rules batch wide last start (sym behind.src) (sym behind.dst);
        ordered = subst (λ (pieces : List RankedPiece). IsOrdered last (Contains pieces)) (sym (pieces_left mode bits rules batch wide start)) ordered;
      }

pub restarts_lead_on : PlannedRestartsLeadOn
restarts_lead_on device_slots mode bits rules batch state done left twin live slots entries planned rewrites erased plan =
    leads_on device_slots mode bits rules batch state done left twin live slots entries planned rewrites erased plan

pub restarts_come_to_rest : PlannedRestartsComeToRest
restarts_come_to_rest device_slots mode bits rules batch state done left twin live slots entries planned rewrites erased plan =
    at_rest device_slots mode bits rules batch state done left twin live slots entries planned rewrites erased plan
