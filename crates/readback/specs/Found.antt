-- What is answered of the stage that a device shows.
use Rattle.std.specs.Prelude.{◌≡◌, ℕ, Result, Ok, Err, IfOk, IfErr, Option, List}
use Rattle.rule_model.specs.declared.Rule.{Rule}
use Rattle.rule_store.specs.declared.Mode.{Mode}
use Rattle.rule_store.specs.declared.Command.{Command}
use Rattle.tcam_device.specs.declared.Write.{Write}
use Rattle.tcam_device.specs.State.{State, replay}
use Rattle.commit_writes.specs.Bits.{FieldBits, bits_with}
use Rattle.commit_writes.specs.Changes.{coded_by, during_of}
use Rattle.readback.specs.declared.Stage.{Stage}
use Rattle.readback.specs.declared.StageFault.{StageFault}
use Rattle.readback.specs.declared.StageFault.TheVariants.{Memory}
use Rattle.readback.specs.declared.staging.Shown.{Shown}
use Rattle.readback.specs.Places.{AreIn}
use Rattle.readback.specs.Stage.{IsStage, Finds}
use Rattle.readback.specs.Tasks.{CommitPieces, known_pieces}
use Rattle.rule_model.specs.declared.words.Entry.{Entry}
use Rattle.readback.specs.Fault.{AreSetBits, IsFaultOf}
use Rattle.readback.specs.Laws.{CanCommit}
use Rattle.readback.specs.Words.{AreRight, AreShort}

-- Ok comes only for a stage of the set's bits, and a fault only where it applies: so for such a stage none but want of memory
pub record AnswersStage (slots : ℕ) (mode : Mode) (bits : FieldBits) (rules : List Rule) (batch : List Command) (state : State) (result : Result Stage StageFault) : Type 0 where
  pub bits_are : IfOk result (λ found. AreSetBits mode rules bits)
  pub found : IfOk result (λ found. Finds slots mode bits rules batch state found)
  pub fault : IfErr result (λ fault. IsFaultOf slots mode bits rules batch state fault)
  pub no_fault : IfErr result (λ fault. AreSetBits mode rules bits → IsStage slots mode bits rules batch state → fault ≡ Memory)

-- Once the bits that were handed in and the tables' words for them are right, the commit can be made, and these are the
-- live ranges while it is: by covers there are none.
pub record IsRead (mode : Mode) (bits : FieldBits) (rules : List Rule) (batch : List Command) (device_slots : ℕ) (journal : List Write) (live : Option FieldBits) : Type 0 where
  pub can : CanCommit mode bits rules batch
  pub right : AreRight bits (replay device_slots journal)
  pub short : AreShort (replay device_slots journal)
  pub coded : coded_by live ≡ mode
  pub during_is : during_of live ≡ bits_with mode rules batch bits

-- the stage alone
abbrev pub stage_in : Result Shown StageFault → Result Stage StageFault
stage_in (Ok shown) = Ok shown.stage
stage_in (Err fault) = Err fault

-- beside the stage stand the pieces of the commit, and which of them is in each slot
pub record IsShown (pieces : CommitPieces) (held : List (Option Entry)) (shown : Shown) : Type 0 where
  pub places : AreIn held (known_pieces pieces) shown.places.items
  pub inserted : shown.inserted.items ≡ pieces.inserted
  pub rewritten : shown.rewritten.items ≡ pieces.rewritten
  pub erased : shown.erased.items ≡ pieces.erased
