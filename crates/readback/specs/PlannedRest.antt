-- What is left of a commit, as it is planned at a restart: insertions first, then new results, then erases.
use Rattle.std.specs.Prelude.{◌≡◌, ℕ, Option, Some, None, List, ◌++◌, length, map}
use Rattle.std.specs.List.{AllByRecursion, AllZip, filter_map}
use Rattle.slot_pool.specs.Arrangement.{Slots}
use Rattle.rule_model.specs.declared.Rule.{Rule}
use Rattle.rule_model.specs.RuleSet.{BoundsChains}
use Rattle.rule_store.specs.declared.Mode.{Mode}
use Rattle.rule_store.specs.declared.Command.{Command}
use Rattle.rule_store.specs.Batch.{additions}
use Rattle.rule_model.specs.Entry.{entry_for}
use Rattle.placement.specs.declared.LivePiece.{LivePiece}
use Rattle.tcam_device.specs.declared.Write.{Write}
use Rattle.tcam_device.specs.State.{State, IsState, on_device}
use Rattle.tcam_device.specs.Insertion.{IsWithinTightBound}
use Rattle.commit_writes.specs.Proposal.{Proposal, proposal}
use Rattle.commit_writes.specs.declared.Rewrite.{Rewrite}
use Rattle.commit_writes.specs.Bits.{FieldBits}
use Rattle.commit_writes.specs.Shape.{fresh_writes, insertions_behind, HasShape}
use Rattle.commit_writes.specs.Planned.{IdEntries, Planned, ArePlanned, entry_at, ranked_of, contents}
use Rattle.commit_writes.specs.PlannedBatch.{IsIdOf, IsRewriteOf, batch_writes}
use Rattle.readback.specs.Tasks.{Task, commit_pieces}
use Rattle.readback.specs.Stage.{IsCommitAt, IsTwinSlot}
use Rattle.readback.specs.Going.{inserted_by, rewritten_by, erased_by, twin_writes, due_in, restart_front}
use Rattle.readback.specs.Laws.{CanCommit, PassesStages}
use Rattle.readback.specs.Standing.{HaveStandingIds}

-- What is left of a stage without a twin, as it was planned: the pieces that stand have an id each, in order, and the state
-- shows these; each piece that is still to come is one insertion; each that gets a result has its id with its new entry;
-- and each that goes has its id. All pieces have the bits that are live meanwhile.
pub record IsPlannedRest (asked : Proposal) (state : State) (left : List Task) (live : List LivePiece) (slots : Slots) (entries : IdEntries) (planned : List Planned) (rewrites : List Rewrite) (erased : List ℕ) : Type 0 where
  pub mirrors : state.slots ≡ contents entries slots
  pub stands : HaveStandingIds (commit_pieces asked.mode asked.bits asked.rules asked.batch) live slots entries
  pub inserted : map ranked_of planned ≡ filter_map inserted_by left
  pub have_entries : AllByRecursion (λ insertion. entry_at entries insertion.one.id ≡ Some (entry_for (ranked_of insertion))) planned
  pub are_planned : ArePlanned live slots planned
  pub rewrites_are : AllZip (IsRewriteOf live) (filter_map rewritten_by left) rewrites
  pub erased_are : AllZip (IsIdOf live) (filter_map erased_by left) erased

-- all that is written at a restart: the table words that differ, the erase of the twin, and the planned rest
abbrev pub restart_writes : Proposal → State → Option ℕ → IdEntries → Slots → List Planned → List Rewrite → List ℕ → List Write
restart_writes asked state twin entries slots planned rewrites erased =
    fresh_writes asked.mode asked.bits asked.rules asked.batch state ++ (twin_writes twin ++ batch_writes entries slots planned rewrites erased)

-- From a state on, which is a stage without a twin, some writes have the shape of what is left, pass only stages, end with no
-- task left, and each of their insertions is within the bound.
pub record AreRestWrites (slots : ℕ) (mode : Mode) (bits : FieldBits) (rules : List Rule) (batch : List Command) (state : State) (left : List Task) (writes : List Write) : Type 0 where
  pub shape : HasShape (restart_front mode bits rules batch state None) (due_in left) state writes
  pub passes : PassesStages slots mode bits rules batch state writes
  pub tight : (chain : ℕ) → BoundsChains (rules ++ additions batch) chain → IsWithinTightBound chain (insertions_behind shape)

-- so are those of a planned rest, on each device with the slots in use or more
abbrev pub PlannedRestsPassStages : Type 0
PlannedRestsPassStages =
    (mode : Mode) (bits : FieldBits) (rules : List Rule) (batch : List Command) (state : State) (device_slots : ℕ) (done left : List Task)
    (live : List LivePiece) (slots : Slots) (entries : IdEntries) (planned : List Planned) (rewrites : List Rewrite) (erased : List ℕ)
    → CanCommit mode bits rules batch → IsState (length state.slots) state
    → IsCommitAt (length slots) mode bits rules batch (on_device device_slots state) done left → IsTwinSlot (on_device device_slots state).slots None
    → IsPlannedRest (proposal mode bits rules batch) state left live slots entries planned rewrites erased
    → AreRestWrites (length slots) mode bits rules batch (on_device device_slots state) left (restart_writes (proposal mode bits rules batch) state None entries slots planned rewrites erased)
