-- Stages: what a device shows where a commit was stopped.
use Rattle.std.specs.Prelude.{◌≡◌, ℕ, ◌<◌, ◌≤◌, Option, Some, None, List, ◌++◌, Contains, length}
use Rattle.std.specs.List.{AllByRecursion}
use Rattle.slot_order.specs.Order.{slot}
use Rattle.rule_model.specs.declared.Rule.{Rule}
use Rattle.rule_model.specs.Piece.{PiecesOverlap}
use Rattle.rule_model.specs.declared.words.Entry.{Entry}
use Rattle.rule_model.specs.Entry.{RankedPiece, entry_for}
use Rattle.rule_store.specs.declared.Mode.{Mode}
use Rattle.rule_store.specs.declared.Command.{Command}
use Rattle.tcam_device.specs.State.{State}
use Rattle.tcam_device.specs.Order.{StandsAt, IsTwin, HasOneTwin}
use Rattle.commit_writes.specs.Bits.{FieldBits, bits_with}
use Rattle.commit_writes.specs.Serving.{AreTranslated}
use Rattle.readback.specs.declared.Stage.{Stage}
use Rattle.readback.specs.Tasks.{CommitPieces, Task, commit_pieces, known_pieces, tasks_of, IsStanding, IsDone, IsLeft}

-- The state is a stage of a commit of these pieces, with so many slots in use, the bits of the old set, and those that are
-- live meanwhile: these tasks are done, and those are left.
pub record IsStageAt (slots : ℕ) (before during : FieldBits) (pieces : CommitPieces) (state : State) (done left : List Task) : Type 0 where
  -- slots past those in use are empty
  pub unused : (at : ℕ) → slots ≤ at → slot state.slots at ≡ None
  -- each slot is empty or holds the entry of an old or an inserted piece, or of a rewritten one with its new result
  pub known : (at : ℕ) (entry : Entry) → slot state.slots at ≡ Some entry → (ranked : RankedPiece) × Contains (known_pieces pieces) ranked × (entry_for ranked ≡ entry)
  -- the tables serve the old set's ranges, and where an inserted piece stands the new ones too
  pub old_words : AreTranslated state before
  pub new_words : (ranked : RankedPiece) → Contains pieces.inserted ranked → IsStanding state ranked → AreTranslated state during
  -- of two slots whose pieces overlap the later has no greater tag
  pub order : (i j : ℕ) (first second : RankedPiece) → i < j → Contains (known_pieces pieces) first → Contains (known_pieces pieces) second
      → StandsAt state i first → StandsAt state j second → PiecesOverlap first.piece second.piece → second.rank ≤ first.rank
  -- at most one piece stands in two slots, with one result, and none in three
  pub twins : HasOneTwin state.slots
  -- each old piece that isn't taken out stands
  pub stays : (ranked : RankedPiece) → Contains pieces.old ranked → (Contains pieces.erased ranked → ⊥) → IsStanding state ranked
  -- the tasks that are done come before those that are left
  pub parts : tasks_of pieces ≡ done ++ left
  pub are_done : AllByRecursion (IsDone state) done
  pub are_left : AllByRecursion (IsLeft state) left

-- so it is of an accepted batch over a set of rules and its bits
abbrev pub IsCommitAt : ℕ → Mode → FieldBits → List Rule → List Command → State → List Task → List Task → Type 0
IsCommitAt slots mode bits rules batch state done left =
    IsStageAt slots bits (bits_with mode rules batch bits) (commit_pieces mode bits rules batch) state done left

-- the state is a stage of an accepted batch
abbrev pub IsStage : ℕ → Mode → FieldBits → List Rule → List Command → State → Type 0
IsStage slots mode bits rules batch state =
    (done : List Task) × (left : List Task) × IsCommitAt slots mode bits rules batch state done left

-- the slot of the twin, or that there is none
abbrev pub IsTwinSlot : List (Option Entry) → Option ℕ → Type 0
IsTwinSlot slots None = (at : ℕ) → IsTwin slots at → ⊥
IsTwinSlot slots (Some at) = IsTwin slots at

-- a stage was found, with its numbers
pub record Finds (slots : ℕ) (mode : Mode) (bits : FieldBits) (rules : List Rule) (batch : List Command) (state : State) (found : Stage) : Type 0 where
  pub done : List Task
  pub left : List Task
  pub stage : IsCommitAt slots mode bits rules batch state done left
  pub done_number : found.done ≡ length done
  pub left_number : found.left ≡ length left
  pub twin : IsTwinSlot state.slots found.twin
