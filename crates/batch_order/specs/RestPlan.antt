-- What plans of a rest's parts give.
use Rattle.std.specs.Prelude.{◌≡◌, ℕ, Option, List, ◌++◌, length, map}
use Rattle.std.specs.List.{AllZip, filter_map}
use Rattle.slot_pool.specs.Arrangement.{Slots}
use Rattle.rule_model.specs.declared.Rule.{Rule}
use Rattle.rule_store.specs.declared.Mode.{Mode}
use Rattle.rule_store.specs.declared.Command.{Command}
use Rattle.placement.specs.Placement.{Aiming}
use Rattle.tcam_device.specs.State.{State, IsState, state_after, on_device}
use Rattle.commit_writes.specs.Proposal.{Proposal, proposal}
use Rattle.commit_writes.specs.declared.Rewrite.{Rewrite}
use Rattle.commit_writes.specs.Bits.{FieldBits}
use Rattle.commit_writes.specs.Planned.{Planned}
use Rattle.commit_writes.specs.PlannedBatch.{IsIdOf, IsRewriteOf}
use Rattle.commit_writes.specs.Shape.{fresh_writes}
use Rattle.readback.specs.Halt.{Halt, halt_at, parts_as_planned}
use Rattle.readback.specs.Tasks.{Task, commit_pieces}
use Rattle.readback.specs.Stage.{IsCommitAt, IsTwinSlot}
use Rattle.readback.specs.Going.{twin_writes, inserted_by, rewritten_by, erased_by}
use Rattle.readback.specs.Laws.{CanCommit}
use Rattle.readback.specs.PlannedRest.{restart_writes}
use Rattle.readback.specs.Restart.{IsPlannedRestart}
use Rattle.readback.specs.Standing.{AreReadIds}
use Rattle.batch_order.specs.Arranged.{Arranged, LeftChanges, arranged_at, left_changes}
use Rattle.batch_order.specs.declared.plan.Plan.{Plan}
use Rattle.batch_order.specs.Entries.{Entries}
use Rattle.batch_order.specs.Planning.{AreAllPlanned, as_writes, all_writes}

-- all that is planned at a restart is a planned restart, with these aims, and its writes are the plan's
pub record IsRestPlan (device_slots : ℕ) (asked : Proposal) (state : State) (halt : Halt) (before : Arranged) (new : Entries) (plan' : Plan) (aims : List Aiming) (changes : LeftChanges) : Type 0 where
  pub planned : List Planned
  pub restart : IsPlannedRestart device_slots asked state halt before.kept.live before.slots new.entries (parts_as_planned planned changes.rewrites changes.erased)
  pub aims_are : map (λ insertion. insertion.aiming) planned ≡ aims
  pub writes_are : as_writes new.entries changes.rewrites (all_writes plan'.writes) ≡ restart_writes asked state halt.twin new.entries before.slots planned changes.rewrites changes.erased

abbrev pub PlansRest : Type 0
PlansRest =
    (device_slots : ℕ) (mode : Mode) (bits : FieldBits) (rules : List Rule) (batch : List Command) (state : State) (done left : List Task) (twin : Option ℕ)
    (old new : Entries) (slots middle : Slots) (plan plan' : Plan) (aims : List Aiming) (rewrites : List Rewrite) (erased : List ℕ)
    → CanCommit mode bits rules batch → IsState (length state.slots) state
    → IsCommitAt (length slots) mode bits rules batch (on_device device_slots state) done left → IsTwinSlot (on_device device_slots state).slots twin
    → AreReadIds (commit_pieces mode bits rules batch) (state_after state (twin_writes twin)).slots old.live slots old.entries
    → as_writes new.entries rewrites (all_writes plan.writes) ≡ fresh_writes mode bits rules batch state ++ twin_writes twin
    → AreAllPlanned (arranged_at old slots) (arranged_at new middle) plan plan' (filter_map inserted_by left) aims rewrites erased
    → AllZip (IsRewriteOf old.live) (filter_map rewritten_by left) rewrites → AllZip (IsIdOf old.live) (filter_map erased_by left) erased
    → IsRestPlan device_slots (proposal mode bits rules batch) state (halt_at done left twin) (arranged_at old slots) new plan' aims (left_changes rewrites erased)
