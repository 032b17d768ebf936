-- A planned batch's insertions are a planned row.
use Rattle.std.proofs.Common.{ℕ, List}
use Rattle.slot_pool.specs.Arrangement.{Slots}
use Rattle.rule_model.specs.declared.Rule.{Rule}
use Rattle.rule_store.specs.declared.Mode.{Mode}
use Rattle.rule_store.specs.declared.Command.{Command}
use Rattle.placement.specs.declared.LivePiece.{LivePiece}
use Rattle.tcam_device.specs.State.{State}
use Rattle.commit_writes.specs.Proposal.{proposal}
use Rattle.commit_writes.specs.declared.Rewrite.{Rewrite}
use Rattle.commit_writes.specs.Bits.{FieldBits}
use Rattle.commit_writes.specs.Shape.{set_pieces, inserted_pieces}
use Rattle.commit_writes.specs.Planned.{IdEntries, Planned, IsPlannedRow, live_after}
use Rattle.commit_writes.specs.PlannedBatch.{IsPlannedBatch}
use Rattle.commit_writes.proofs.BatchPieces.{row_pieces, row_served, row_once}
use Rattle.commit_writes.proofs.BatchRules.{change_of}
use Rattle.commit_writes.proofs.Ids.{AreOfPieces}
use Rattle.commit_writes.proofs.Members.{of_row}

-- before them the set stands, and each piece that is new is one of them
pub row_of : (mode : Mode) (bits : FieldBits) (state : State) (rules : List Rule) (batch : List Command) (live : List LivePiece) (slots : Slots) (entries : IdEntries) (planned : List Planned) (rewrites : List Rewrite) (erased : List ℕ)
    → IsPlannedBatch (proposal mode bits rules batch) state live slots entries planned rewrites erased
    → IsPlannedRow state (set_pieces mode bits rules) (inserted_pieces mode bits rules batch) live slots entries planned
row_of mode bits state rules batch live slots entries planned rewrites erased plan = record {
  is_state = plan.is_state;
  mirrors = plan.mirrors;
  served = row_served mode bits state rules batch (change_of mode bits state rules batch live slots entries planned rewrites erased plan) plan.serving;
  once = row_once mode bits rules batch (change_of mode bits state rules batch live slots entries planned rewrites erased plan);
  arranged = plan.arranged;
  entries_are = plan.entries_are;
  inserted_are = plan.inserted;
  have_entries = plan.have_entries;
  are_planned = plan.are_planned;
}

-- the ids after the insertions are theirs
pub batch_of : (mode : Mode) (bits : FieldBits) (state : State) (rules : List Rule) (batch : List Command) (live : List LivePiece) (slots : Slots) (entries : IdEntries) (planned : List Planned) (rewrites : List Rewrite) (erased : List ℕ)
    → IsPlannedBatch (proposal mode bits rules batch) state live slots entries planned rewrites erased → AreOfPieces state (row_pieces mode bits rules batch) (live_after live planned) entries
batch_of mode bits state rules batch live slots entries planned rewrites erased plan =
    of_row state (set_pieces mode bits rules) (inserted_pieces mode bits rules batch) live slots entries planned (row_of mode bits state rules batch live slots entries planned rewrites erased plan)
