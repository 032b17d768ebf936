-- A device that was stopped in a commit: what it shows, the ids that its pieces get again, and what is planned from there.
use Rattle.std.specs.Prelude.{◌≡◌, ℕ, ◌-◌, ◌+◌, ◌^◌, ◌≤◌, ◌<◌, ◌⊎◌, Bool, false, IsTrue, IfSome, None, Some, List, length, drop, take, nat_eq}
use Rattle.std.specs.List.{AllByRecursion, IsDistinct}
use Rattle.slot_order.specs.Order.{slot, most_slots}
use Rattle.slot_pool.specs.Arrangement.{Slots}
use Rattle.rule_model.specs.declared.Rule.{Rule}
use Rattle.rule_store.specs.declared.Mode.{Mode}
use Rattle.rule_store.specs.declared.Command.{Command}
use Rattle.rule_store.specs.Verdict.{Accepted, entries_of, verdict}
use Rattle.rule_model.specs.Entry.{IsEncodable}
use Rattle.placement.specs.Live.{is_live}
use Rattle.placement.specs.Insertion.{IsLive}
use Rattle.tcam_device.specs.State.{State, IsState, state_after}
use Rattle.commit_writes.specs.Proposal.{Proposal}
use Rattle.commit_writes.specs.declared.Done.{Done}
use Rattle.commit_writes.specs.Bits.{FieldBits, bits_with}
use Rattle.commit_writes.specs.Planned.{contents, live_after, slots_after}
use Rattle.commit_writes.specs.PlannedBatch.{AreNumbersOf, erased_slots}
use Rattle.commit_writes.specs.Changes.{coded_by, during_of}
use Rattle.readback.specs.Halt.{halt_at}
use Rattle.readback.specs.declared.staging.Shown.{Shown}
use Rattle.readback.specs.Found.{IsShown}
use Rattle.readback.specs.Going.{twin_writes}
use Rattle.readback.specs.Laws.{CanCommit}
use Rattle.readback.specs.Stage.{Finds, IsCommitAt}
use Rattle.readback.specs.Tasks.{Task, commit_pieces, known_pieces}
use Rattle.readback.specs.Standing.{AreReadIds}
use Rattle.batch_order.specs.Arranged.{Arranged, left_changes}
use Rattle.batch_order.specs.declared.Placement.{Placement}
use Rattle.batch_order.specs.declared.held.Held.{Held}
use Rattle.batch_order.specs.declared.plan.Plan.{Plan}
use Rattle.batch_order.specs.declared.restarting.resuming.Rest.{Rest}
use Rattle.batch_order.specs.declared.undoing.PlannedUndo.{PlannedUndo}
use Rattle.batch_order.specs.Entries.{AddsIds, Entries, HaveIds, KeepEntries}
use Rattle.batch_order.specs.Kept.{changed_by}
use Rattle.batch_order.specs.Placing.{aims_left}
use Rattle.batch_order.specs.Planning.{IsSettled, IsWithin, as_writes, all_writes}
use Rattle.batch_order.specs.Restart.{in_use}
use Rattle.batch_order.specs.RestPlan.{IsRestPlan}

-- What a device shows that was stopped in a commit: a stage, with the piece of each slot and the pieces that the commit is
-- about.
pub record IsStopped (slots : ℕ) (mode : Mode) (bits : FieldBits) (rules : List Rule) (batch : List Command) (state : State) (shown : Shown) : Type 0 where
  pub least : 1 ≤ slots
  pub most : slots ≤ most_slots
  pub wide : slots ≤ length state.slots
  pub is_state : IsState (length state.slots) state
  pub can : CanCommit mode bits rules batch
  pub accepted : verdict slots mode rules batch ≡ Accepted
  pub found : Finds slots mode bits rules batch state shown.stage
  pub is_shown : IsShown (commit_pieces mode bits rules batch) state.slots shown
  pub encodable : AllByRecursion (λ ranked. IsEncodable ranked.piece) (known_pieces (commit_pieces mode bits rules batch))

-- Its pieces have ids again, each one, and the twin's slot has none. What is left to change or to go stands under an id.
-- Where pieces are left to be put in, so many stand as the old set has and were put in, and there is room for the others.
pub record IsReadAgain (mode : Mode) (bits : FieldBits) (rules : List Rule) (batch : List Command) (state : State) (shown : Shown) (kept : Entries) (slots : Slots) : Type 0 where
  pub read : AreReadIds (commit_pieces mode bits rules batch) (state_after (in_use (length slots) state) (twin_writes shown.stage.twin)).slots kept.live slots kept.entries
  pub settled : IsSettled kept slots
  pub inside : IfSome shown.stage.twin (λ at. at < length slots)
  pub rewritten : HaveIds kept.live (drop (shown.stage.done - length shown.inserted.items) shown.rewritten.items)
  pub erased : HaveIds kept.live (drop (shown.stage.done - length shown.inserted.items - length shown.rewritten.items) shown.erased.items)
  pub standing : (length (drop shown.stage.done shown.inserted.items) ≡ 0) ⊎ (length kept.live ≡ entries_of mode rules + shown.stage.done)
  pub room : length kept.live + length (drop shown.stage.done shown.inserted.items) ≤ kept.slots

-- with the id of its piece in the twin's slot too, the slots hold the entries of their ids
pub record IsAsFound (state : State) (kept : Entries) (slots : Slots) : Type 0 where
  pub size : length slots ≡ kept.slots
  pub mirrors : contents kept.entries slots ≡ take (length slots) state.slots
  pub within : (at id : ℕ) → slot slots at ≡ Some id → IsLive kept.live id

-- the numbers of a plan
abbrev pub counts_of : Plan → Done
counts_of plan = record { writes = length (all_writes plan.writes); words = plan.words; most = plan.most; span = plan.span }

-- What is held of a plan before its first write, with its drain, its batch, and where the entries stand in the end: it isn't
-- prepared.
abbrev pub held_from : Rest → Bool → Bool → List Command → Slots → PlannedUndo → Held
held_from rest awaits drained batch slots undo = record {
  prepared = false;
  writes = rest.plan.writes;
  undo = undo;
  made = 0;
  turned = None;
  awaits = awaits;
  drained = drained;
  counts = counts_of rest.plan;
  bits = rest.bits;
  batch = batch;
  rewrites = rest.left.rewrites;
  erased = rest.left.erased;
  ids = rest.ids;
  arrangement = slots;
  most_parts = rest.plan.most_parts;
}

-- All that is left is planned, from the tasks that are done on, each insertion with its aim: the new ids are live, and the
-- slots are arranged as they will stand.
pub record IsPlannedOn (placement : Placement) (device_slots : ℕ) (asked : Proposal) (state : State) (shown : Shown) (before after : Arranged) (rest : Rest) : Type 0 where
  pub done : List Task
  pub left : List Task
  pub stage : IsCommitAt (length before.slots) asked.mode asked.bits asked.rules asked.batch state done left
  pub plan : IsRestPlan device_slots asked (in_use (length before.slots) state) (halt_at done left shown.stage.twin) before after.kept rest.plan
      (aims_left placement asked.mode asked.bits (length before.slots) asked.rules asked.batch done) (left_changes rest.left.rewrites.items rest.left.erased.items)
  pub numbers : AreNumbersOf (as_writes after.kept.entries rest.left.rewrites.items (all_writes rest.plan.writes)) plan.planned (counts_of rest.plan)
  pub coded : coded_by rest.bits ≡ asked.mode
  pub during : during_of rest.bits ≡ bits_with asked.mode asked.rules asked.batch asked.bits
  pub adds : AddsIds before.kept after.kept rest.ids.items
  pub live : after.kept.live ≡ live_after before.kept.live plan.planned
  pub kept : KeepEntries before.kept.live before.kept.entries after.kept.entries
  pub arranged : after.slots ≡ erased_slots (slots_after before.slots plan.planned) rest.left.erased.items
  pub settled : IsSettled (changed_by after.kept rest.left.rewrites.items rest.left.erased.items) after.slots
  pub within : AllByRecursion (IsWithin (length before.slots)) (all_writes rest.plan.writes)
  -- what it rewrites and erases are live ids, each erased once
  pub changed : AllByRecursion (λ rewrite. IsTrue (is_live after.kept.live rewrite.id)) rest.left.rewrites.items
  pub gone : AllByRecursion (λ id. IsTrue (is_live after.kept.live id)) rest.left.erased.items
  pub once : IsDistinct nat_eq rest.left.erased.items
  pub few_writes : length (all_writes rest.plan.writes) ≤ 2 ^ 35
  pub few_planned : length plan.planned ≤ most_slots
  pub few_rewritten : length rest.left.rewrites.items ≤ most_slots
  pub few_erased : length rest.left.erased.items ≤ most_slots
