-- A planned rest behind the words of the tables and the erase of the twin: all that is known of it.
use Rattle.std.proofs.Common.{ℕ, List, ◌++◌, length}
use Rattle.std.specs.List.{filter_map}
use Rattle.slot_pool.specs.Arrangement.{Slots}
use Rattle.rule_model.specs.declared.Rule.{Rule}
use Rattle.rule_store.specs.declared.Mode.{Mode}
use Rattle.rule_store.specs.declared.Command.{Command}
use Rattle.rule_store.specs.Batch.{additions, set_after}
use Rattle.rule_model.specs.Entry.{RankedPiece}
use Rattle.placement.specs.declared.LivePiece.{LivePiece}
use Rattle.tcam_device.specs.State.{State, IsState}
use Rattle.commit_writes.specs.Proposal.{proposal}
use Rattle.commit_writes.specs.declared.Rewrite.{Rewrite}
use Rattle.commit_writes.specs.Bits.{FieldBits, bits_with}
use Rattle.commit_writes.specs.Shape.{set_pieces}
use Rattle.commit_writes.specs.Planned.{IdEntries, Planned}
use Rattle.commit_writes.specs.Serving.{AreServing}
use Rattle.commit_writes.proofs.BatchRules.{IsSoundChange}
use Rattle.readback.specs.Tasks.{CommitPieces, Task, commit_pieces}
use Rattle.readback.specs.Stage.{IsCommitAt}
use Rattle.readback.specs.Going.{inserted_by}
use Rattle.readback.proofs.Facts.{ArePieces}
use Rattle.readback.proofs.Pieces.{pieces_are, pieces_lead}
use Rattle.readback.proofs.Shows.{LeadTo}
use Rattle.readback.specs.PlannedRest.{IsPlannedRest}

pub record Begun : Type 0 where
  pub mode : Mode
  pub bits : FieldBits
  pub rules : List Rule
  pub batch : List Command
  pub start : State
  pub done : List Task
  pub left : List Task
  pub live : List LivePiece
  pub slots : Slots
  pub entries : IdEntries
  pub planned : List Planned
  pub rewrites : List Rewrite
  pub erased : List ℕ
  pub change : IsSoundChange rules batch
  pub is_state : IsState (length start.slots) start
  -- the tables serve the old rules and the new ones
  pub serving : AreServing mode (bits_with mode rules batch bits) (rules ++ additions batch) start
  pub stage : IsCommitAt (length slots) mode bits rules batch start done left
  pub plan : IsPlannedRest (proposal mode bits rules batch) start left live slots entries planned rewrites erased

-- the bits that are live meanwhile
abbrev pub during_of : Begun → FieldBits
during_of b = bits_with b.mode b.rules b.batch b.bits

-- the pieces of the commit
abbrev pub pieces : Begun → CommitPieces
pieces b = commit_pieces b.mode b.bits b.rules b.batch

-- those that have come, and those that are still to come
abbrev pub came : Begun → List RankedPiece
came b = filter_map inserted_by b.done

abbrev pub coming : Begun → List RankedPiece
coming b = filter_map inserted_by b.left

-- the pieces of the new set
abbrev pub new_of : Begun → List RankedPiece
new_of b = set_pieces b.mode (during_of b) (set_after b.rules b.batch)

pub facts : (b : Begun) → ArePieces (pieces b)
facts b = pieces_are b.mode b.bits b.rules b.batch b.change b.start b.serving

pub leads : (b : Begun) → LeadTo (pieces b) (new_of b)
leads b = pieces_lead b.mode b.bits b.rules b.batch b.change
