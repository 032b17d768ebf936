-- Where a planned restart leads.
use Rattle.std.specs.Prelude.{◌≡◌, ℕ, ◌+◌, ◌*◌, ◌≤◌, Option, List, length}
use Rattle.std.specs.List.{AllByRecursion}
use Rattle.slot_pool.specs.Arrangement.{Slots}
use Rattle.rule_model.specs.declared.Rule.{Rule}
use Rattle.rule_store.specs.declared.Mode.{Mode}
use Rattle.rule_store.specs.declared.Command.{Command}
use Rattle.rule_store.specs.Batch.{set_after}
use Rattle.placement.specs.declared.LivePiece.{LivePiece}
use Rattle.tcam_device.specs.declared.Write.{Write}
use Rattle.tcam_device.specs.State.{State, IsInUse, state_after, on_device}
use Rattle.commit_writes.specs.Proposal.{Proposal, proposal}
use Rattle.commit_writes.specs.declared.Rewrite.{Rewrite}
use Rattle.commit_writes.specs.Bits.{FieldBits, bits_with, bits_left}
use Rattle.commit_writes.specs.Planned.{IdEntries, Planned, AreEntriesOf, contents, with_slots, live_after, slots_after}
use Rattle.commit_writes.specs.PlannedBatch.{rewritten_entries, erased_slots, erased_live}
use Rattle.commit_writes.specs.Segments.{IsAtRest}
use Rattle.commit_writes.specs.Shape.{set_pieces, fresh_writes}
use Rattle.readback.specs.Halt.{halt_at, parts_as_planned}
use Rattle.readback.specs.Tasks.{Task}
use Rattle.readback.specs.PlannedRest.{restart_writes}
use Rattle.readback.specs.Restart.{IsPlannedRestart}

-- Some writes write slots in use alone, and are no more than the plan allows. Behind them the ids that are left stand where
-- they were planned, those that got a result with their new entries, under the tables with the words of the new bits; and
-- they are those of the new set's pieces, each with its entry.
pub record LeadsOn (asked : Proposal) (state : State) (live : List LivePiece) (slots : Slots) (entries : IdEntries) (planned : List Planned) (rewrites : List Rewrite) (erased : List ℕ) (writes : List Write) : Type 0 where
  pub in_use : AllByRecursion (IsInUse (length state.slots)) writes
  pub few : length writes ≤ length (fresh_writes asked.mode asked.bits asked.rules asked.batch state) + 1 + (length slots * (1 + length slots) * length planned + length rewrites + length erased)
  pub leads : state_after state writes
      ≡ with_slots (state_after state (fresh_writes asked.mode asked.bits asked.rules asked.batch state)) (contents (rewritten_entries entries rewrites) (erased_slots (slots_after slots planned) erased))
  pub entries_are : AreEntriesOf (set_pieces asked.mode (bits_with asked.mode asked.rules asked.batch asked.bits) (set_after asked.rules asked.batch)) (erased_live (live_after live planned) erased) (rewritten_entries entries rewrites)

-- so do those of a planned restart,
abbrev pub PlannedRestartsLeadOn : Type 0
PlannedRestartsLeadOn =
    (device_slots : ℕ) (mode : Mode) (bits : FieldBits) (rules : List Rule) (batch : List Command) (state : State) (done left : List Task) (twin : Option ℕ)
    (live : List LivePiece) (slots : Slots) (entries : IdEntries) (planned : List Planned) (rewrites : List Rewrite) (erased : List ℕ)
    → IsPlannedRestart device_slots (proposal mode bits rules batch) state (halt_at done left twin) live slots entries (parts_as_planned planned rewrites erased)
    → LeadsOn (proposal mode bits rules batch) state live slots entries planned rewrites erased (restart_writes (proposal mode bits rules batch) state twin entries slots planned rewrites erased)

-- and after them the next commit may begin, with the bits that are left
abbrev pub PlannedRestartsComeToRest : Type 0
PlannedRestartsComeToRest =
    (device_slots : ℕ) (mode : Mode) (bits : FieldBits) (rules : List Rule) (batch : List Command) (state : State) (done left : List Task) (twin : Option ℕ)
    (live : List LivePiece) (slots : Slots) (entries : IdEntries) (planned : List Planned) (rewrites : List Rewrite) (erased : List ℕ)
    → IsPlannedRestart device_slots (proposal mode bits rules batch) state (halt_at done left twin) live slots entries (parts_as_planned planned rewrites erased)
    → IsAtRest mode (bits_left (set_after rules batch) (bits_with mode rules batch bits)) (set_after rules batch)
    (state_after (on_device device_slots state) (restart_writes (proposal mode bits rules batch) state twin entries slots planned rewrites erased))
