-- What follows from what a commit keeps: from its bound, and from its first words.
use Rattle.std.specs.Prelude.{◌≡◌, ℕ, List}
use Rattle.rule_model.specs.declared.Rule.{Rule}
use Rattle.rule_store.specs.declared.Mode.{Mode}
use Rattle.rule_store.specs.declared.Command.{Command}
use Rattle.tcam_device.specs.State.{State, state_after}
use Rattle.tcam_device.specs.Insertion.{Insertion, IsWithinBound, IsWithinTightBound}
use Rattle.commit_writes.specs.Bits.{FieldBits}
use Rattle.commit_writes.specs.Shape.{fresh_writes}

-- what is within the bound that holds where moves overwrite is within the one where they erase first, too
abbrev pub TightIsWithin : Type 0
TightIsWithin = (chain : ℕ) (made : List Insertion) → IsWithinTightBound chain made → IsWithinBound chain made

-- the words of a commit's new bits leave the slots as they are
abbrev pub WordsLeaveSlots : Type 0
WordsLeaveSlots =
    (mode : Mode) (bits : FieldBits) (rules : List Rule) (batch : List Command) (state : State)
    → (state_after state (fresh_writes mode bits rules batch state)).slots ≡ state.slots
