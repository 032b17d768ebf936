-- The slots in use of a device that shows a stage.
use Rattle.std.specs.Prelude.{◌≡◌, ℕ, ◌≤◌, List, length, take}
use Rattle.rule_model.specs.declared.Rule.{Rule}
use Rattle.rule_store.specs.declared.Mode.{Mode}
use Rattle.rule_store.specs.declared.Command.{Command}
use Rattle.tcam_device.specs.State.{State, on_device}
use Rattle.commit_writes.specs.Bits.{FieldBits}
use Rattle.readback.specs.Tasks.{Task}
use Rattle.readback.specs.Stage.{IsCommitAt}

-- the first slots of a state, under its tables
abbrev pub slots_in_use : ℕ → State → State
slots_in_use slots state = record state { slots = take slots state.slots }

-- a stage holds nothing but what its slots in use hold
abbrev pub StagesUseNoOtherSlots : Type 0
StagesUseNoOtherSlots =
    (slots : ℕ) (mode : Mode) (bits : FieldBits) (rules : List Rule) (batch : List Command) (state : State) (done left : List Task)
    → slots ≤ length state.slots → IsCommitAt slots mode bits rules batch state done left → on_device (length state.slots) (slots_in_use slots state) ≡ state
