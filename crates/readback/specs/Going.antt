-- Going on from a stage to the new set.
use Rattle.std.specs.Prelude.{ℕ, Bool, not, ◌&&◌, Option, Some, None, List, [], ◌∷◌, ◌++◌, take}
use Rattle.std.specs.List.{list_any, filter_map}
use Rattle.rule_model.specs.declared.Rule.{Rule}
use Rattle.rule_model.specs.RuleSet.{BoundsChains}
use Rattle.rule_model.specs.Entry.{RankedPiece}
use Rattle.rule_store.specs.declared.Mode.{Mode}
use Rattle.rule_store.specs.declared.Command.{Command}
use Rattle.rule_store.specs.Batch.{additions, set_after}
use Rattle.tcam_device.specs.declared.Write.{Write}
use Rattle.tcam_device.specs.declared.Write.TheVariants.{Slot}
use Rattle.tcam_device.specs.State.{State, Shows, state_after}
use Rattle.tcam_device.specs.Hitless.{ShowsOldOrNew}
use Rattle.tcam_device.specs.Insertion.{IsWithinTightBound}
use Rattle.commit_writes.specs.Actions.{have_bits}
use Rattle.commit_writes.specs.Bits.{FieldBits, bits_with, new_bits}
use Rattle.commit_writes.specs.Shape.{inserted_pieces, fresh_writes, insertions_behind, Due, HasShape}
use Rattle.readback.specs.Tasks.{Task, Insert, Rewrite, Erase, stands_in}
use Rattle.readback.specs.Stage.{IsCommitAt, IsStage, IsTwinSlot}

-- the erase of the twin, if there is one
abbrev pub twin_writes : Option ℕ → List Write
twin_writes None = []
twin_writes (Some at) = Slot at None ∷ []

-- the piece of a task that puts one in
abbrev pub inserted_by : Task → Option RankedPiece
inserted_by (Insert ranked) = Some ranked
inserted_by (Rewrite ranked) = None
inserted_by (Erase ranked) = None

-- of one that gives a new result
abbrev pub rewritten_by : Task → Option RankedPiece
rewritten_by (Insert ranked) = None
rewritten_by (Rewrite ranked) = Some ranked
rewritten_by (Erase ranked) = None

-- of one that takes it out
abbrev pub erased_by : Task → Option RankedPiece
erased_by (Insert ranked) = None
erased_by (Rewrite ranked) = None
erased_by (Erase ranked) = Some ranked

-- whether a drain is due from here: bits are given, and no inserted piece stands yet
abbrev pub needs_drain : Mode → FieldBits → List Rule → List Command → State → Bool
needs_drain mode bits rules batch state =
    let during = bits_with mode rules batch bits in
    have_bits (new_bits bits during) && not (list_any (stands_in state.slots) (inserted_pieces mode during rules batch))

-- what some tasks ask for
abbrev pub due_in : List Task → Due
due_in left =
    record { inserted = filter_map inserted_by left; rewritten = filter_map rewritten_by left; erased = filter_map erased_by left }

-- what is written first: the table words that differ, and the erase of the twin
abbrev pub restart_front : Mode → FieldBits → List Rule → List Command → State → Option ℕ → List Write
restart_front mode bits rules batch state twin = fresh_writes mode bits rules batch state ++ twin_writes twin

-- The writes go on from a stage to the new set, hitless after each of them, and passing only stages.
pub record GoesOn (slots : ℕ) (mode : Mode) (bits : FieldBits) (rules : List Rule) (batch : List Command) (state : State) (left : List Task) (twin : Option ℕ) (writes : List Write) : Type 0 where
  pub shape : HasShape (restart_front mode bits rules batch state twin) (due_in left) state writes
  pub stages : (n : ℕ) → IsStage slots mode bits rules batch (state_after state (take n writes))
  pub during : (n : ℕ) → ShowsOldOrNew (state_after state (take n writes)) rules (set_after rules batch)
  -- in the end no task is left, no slot is a twin, and the new set is shown
  pub ended : (done : List Task) × IsCommitAt slots mode bits rules batch (state_after state writes) done []
  pub alone : IsTwinSlot (state_after state writes).slots None
  pub after : Shows (state_after state writes) (set_after rules batch)
  -- each insertion that is still to come is within the bound
  pub tight : (chain : ℕ) → BoundsChains (rules ++ additions batch) chain → IsWithinTightBound chain (insertions_behind shape)
