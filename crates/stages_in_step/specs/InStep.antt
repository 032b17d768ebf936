-- The stages of a commit are in step, as any driver's writes must be.
use Rattle.std.specs.Prelude.{ℕ, List, Contains}
use Rattle.rule_model.specs.declared.Rule.{Rule}
use Rattle.rule_store.specs.declared.Mode.{Mode}
use Rattle.rule_store.specs.declared.Command.{Command}
use Rattle.rule_store.specs.Batch.{set_after}
use Rattle.rule_model.specs.Entry.{RankedPiece}
use Rattle.tcam_device.specs.State.{State, IsState}
use Rattle.tcam_device.specs.Order.{IsOrdered}
use Rattle.commit_writes.specs.Bits.{FieldBits, bits_with}
use Rattle.commit_writes.specs.Shape.{set_pieces}
use Rattle.readback.specs.Laws.{CanCommit}
use Rattle.readback.specs.Stage.{IsStage}
use Rattle.any_order.specs.AnyOrder.{AreInStep}

-- In each stage some pieces stand, in order, and in step with those of the old set and of the new one.
abbrev pub StagesAreInStep : Type 0
StagesAreInStep =
    (slots device_slots : ℕ) (mode : Mode) (bits : FieldBits) (rules : List Rule) (batch : List Command) (state : State)
    → CanCommit mode bits rules batch → IsState device_slots state → IsStage slots mode bits rules batch state
    → (standing : List RankedPiece) × IsOrdered state (Contains standing)
    × AreInStep (Contains (set_pieces mode (bits_with mode rules batch bits) rules)) (Contains (set_pieces mode (bits_with mode rules batch bits) (set_after rules batch))) (Contains standing)
