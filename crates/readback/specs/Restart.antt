-- A planned restart: the table words that differ, the erase of the twin, if there is one, and then the planned rest.
use Rattle.std.specs.Prelude.{ℕ, Option, List, length}
use Rattle.std.specs.List.{AllByRecursion}
use Rattle.slot_pool.specs.Arrangement.{Slots}
use Rattle.rule_model.specs.declared.Rule.{Rule}
use Rattle.rule_model.specs.declared.IpVersion.{IpVersion}
use Rattle.rule_store.specs.declared.Mode.{Mode}
use Rattle.rule_store.specs.declared.Command.{Command}
use Rattle.rule_store.specs.Batch.{additions}
use Rattle.placement.specs.declared.LivePiece.{LivePiece}
use Rattle.tcam_device.specs.State.{State, IsState, state_after, on_device}
use Rattle.tcam_device.specs.Insertion.{IsUncrossed}
use Rattle.commit_writes.specs.Proposal.{Proposal, proposal}
use Rattle.commit_writes.specs.declared.Done.{Done}
use Rattle.commit_writes.specs.declared.Rewrite.{Rewrite}
use Rattle.commit_writes.specs.Bits.{FieldBits}
use Rattle.commit_writes.specs.Planned.{IdEntries, Planned}
use Rattle.commit_writes.specs.PlannedBatch.{AreNumbersOf}
use Rattle.commit_writes.specs.Routes.{IsRoute, prefix_lengths}
use Rattle.commit_writes.specs.Shape.{insertions_behind, HasShape}
use Rattle.commit_writes.specs.Commit.{AreCounts}
use Rattle.readback.specs.Halt.{Halt, PlannedParts, halt_at, parts_as_planned}
use Rattle.readback.specs.Tasks.{Task}
use Rattle.readback.specs.Stage.{IsCommitAt, IsTwinSlot}
use Rattle.readback.specs.Going.{GoesOn, due_in, restart_front, twin_writes}
use Rattle.readback.specs.Laws.{CanCommit}
use Rattle.readback.specs.PlannedRest.{IsPlannedRest, restart_writes}

-- A restart as it was planned, on a device with so many slots, of which as many as are arranged are in use: with these tasks
-- done and left the device shows a stage, with this twin or none; and once the twin is erased the rest is planned.
pub record IsPlannedRestart (device_slots : ℕ) (asked : Proposal) (state : State) (halt : Halt)
    (live : List LivePiece) (slots : Slots) (entries : IdEntries) (parts : PlannedParts) : Type 0 where
  pub can : CanCommit asked.mode asked.bits asked.rules asked.batch
  pub is_state : IsState (length state.slots) state
  pub stage : IsCommitAt (length slots) asked.mode asked.bits asked.rules asked.batch (on_device device_slots state) halt.done halt.left
  pub is_twin : IsTwinSlot (on_device device_slots state).slots halt.twin
  pub rest : IsPlannedRest asked (state_after state (twin_writes halt.twin)) halt.left live slots entries parts.planned parts.rewrites parts.erased

-- such a restart goes on to the new set: hitless after every write, through stages, and within the bounds;
abbrev pub PlannedRestartsGoOn : Type 0
PlannedRestartsGoOn =
    (device_slots : ℕ) (mode : Mode) (bits : FieldBits) (rules : List Rule) (batch : List Command) (state : State) (done left : List Task) (twin : Option ℕ)
    (live : List LivePiece) (slots : Slots) (entries : IdEntries) (planned : List Planned) (rewrites : List Rewrite) (erased : List ℕ)
    → IsPlannedRestart device_slots (proposal mode bits rules batch) state (halt_at done left twin) live slots entries (parts_as_planned planned rewrites erased)
    → GoesOn (length slots) mode bits rules batch (on_device device_slots state) left twin (restart_writes (proposal mode bits rules batch) state twin entries slots planned rewrites erased)

-- its numbers are those of its plan;
abbrev pub PlannedRestartsAreCounted : Type 0
PlannedRestartsAreCounted =
    (device_slots : ℕ) (mode : Mode) (bits : FieldBits) (rules : List Rule) (batch : List Command) (state : State) (done left : List Task) (twin : Option ℕ)
    (live : List LivePiece) (slots : Slots) (entries : IdEntries) (planned : List Planned) (rewrites : List Rewrite) (erased : List ℕ) (counts : Done)
    → IsPlannedRestart device_slots (proposal mode bits rules batch) state (halt_at done left twin) live slots entries (parts_as_planned planned rewrites erased)
    → AreNumbersOf (restart_writes (proposal mode bits rules batch) state twin entries slots planned rewrites erased) planned counts
    → (shape : HasShape (restart_front mode bits rules batch (on_device device_slots state) twin) (due_in left) (on_device device_slots state) (restart_writes (proposal mode bits rules batch) state twin entries slots planned rewrites erased))
    → AreCounts (restart_writes (proposal mode bits rules batch) state twin entries slots planned rewrites erased) (insertions_behind shape) counts

-- and of routes no insertion crosses others, and none takes more writes than a prefix may have lengths
abbrev pub PlannedRestartsCrossNothing : Type 0
PlannedRestartsCrossNothing =
    (device_slots : ℕ) (mode : Mode) (bits : FieldBits) (rules : List Rule) (batch : List Command) (state : State) (done left : List Task) (twin : Option ℕ)
    (live : List LivePiece) (slots : Slots) (entries : IdEntries) (planned : List Planned) (rewrites : List Rewrite) (erased : List ℕ) (version : IpVersion)
    → IsPlannedRestart device_slots (proposal mode bits rules batch) state (halt_at done left twin) live slots entries (parts_as_planned planned rewrites erased)
    → AllByRecursion (IsRoute version) rules → AllByRecursion (IsRoute version) (additions batch)
    → (shape : HasShape (restart_front mode bits rules batch (on_device device_slots state) twin) (due_in left) (on_device device_slots state) (restart_writes (proposal mode bits rules batch) state twin entries slots planned rewrites erased))
    → IsUncrossed (prefix_lengths version) (insertions_behind shape)
