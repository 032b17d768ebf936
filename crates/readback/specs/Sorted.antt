-- What is found of the slots of a device, and what may be wrong with them.
use Rattle.std.specs.Prelude.{◌≡◌, ℕ, ◌<◌, ◌⊎◌, true, Option, Some, List, Contains}
use Rattle.slot_order.specs.Order.{slot}
use Rattle.rule_model.specs.declared.words.Entry.{Entry}
use Rattle.rule_model.specs.Entry.{RankedPiece, entry_for}
use Rattle.tcam_device.specs.State.{State}
use Rattle.tcam_device.specs.Order.{HasOneTwin}
use Rattle.readback.specs.declared.Stage.{Stage}
use Rattle.readback.specs.declared.StageFault.{StageFault}
use Rattle.readback.specs.declared.StageFault.TheVariants.{BitsDiffer, Word, Foreign, Crossed, Twin, Gap, Memory}
use Rattle.readback.specs.Fault.{IsForeign, IsCrossed, IsOneTooMany, IsMissing, IsEarly}
use Rattle.readback.specs.Places.{AreIn, AreInOrder}
use Rattle.readback.specs.Progress.{AreParted}
use Rattle.readback.specs.Stage.{IsTwinSlot}
use Rattle.readback.specs.Tasks.{CommitPieces, known_pieces, tasks_of, stands_in}

-- What the walks over the slots find where nothing is wrong: each entry is in a slot in use and has a piece, the pieces are in
-- order, one entry at most stands in two slots, each old piece that isn't taken out stands, and the tasks are done in their
-- turn.
pub record AreSorted (slots : ℕ) (held : List (Option Entry)) (pieces : CommitPieces) (found : Stage) : Type 0 where
  pub places : List (Option RankedPiece)
  pub are : AreIn held (known_pieces pieces) places
  pub in_use : (at : ℕ) (entry : Entry) → slot held at ≡ Some entry → (at < slots) × ((ranked : RankedPiece) × (slot places at ≡ Some ranked))
  pub ordered : AreInOrder places
  pub twins : HasOneTwin held
  pub twin : IsTwinSlot held found.twin
  pub stand : (ranked : RankedPiece) → Contains pieces.old ranked
      → ((other : RankedPiece) × Contains pieces.erased other × (entry_for other ≡ entry_for ranked)) ⊎ (stands_in held ranked ≡ true)
  pub parted : AreParted held (tasks_of pieces) found.done found.left

-- what may be wrong with the slots
abbrev pub IsSlotFault : ℕ → CommitPieces → State → StageFault → Type 0
IsSlotFault slots pieces state (BitsDiffer field) = ⊥
IsSlotFault slots pieces state (Word field port) = ⊥
IsSlotFault slots pieces state (Foreign slot) = IsForeign slots pieces state slot
IsSlotFault slots pieces state (Crossed slot) = IsCrossed pieces state slot
IsSlotFault slots pieces state (Twin slot) = IsOneTooMany state.slots slot
IsSlotFault slots pieces state (Gap priority) = IsMissing pieces state priority ⊎ IsEarly pieces state priority
IsSlotFault slots pieces state Memory = Unit {0}
