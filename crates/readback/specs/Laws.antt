-- What stages are good for: they answer old or new, commits pass nothing else, and from each one the commit can go on.
use Rattle.std.specs.Prelude.{◌≡◌, ℕ, ◌≤◌, Option, None, List, [], ◌++◌, Contains, length, take}
use Rattle.std.specs.List.{AllByRecursion}
use Rattle.slot_order.specs.Order.{slot}
use Rattle.rule_model.specs.declared.Rule.{Rule}
use Rattle.rule_model.specs.Rule.{HasConditions}
use Rattle.rule_model.specs.RuleSet.{IsRuleSet}
use Rattle.rule_store.specs.declared.Mode.{Mode}
use Rattle.rule_store.specs.declared.Command.{Command}
use Rattle.rule_store.specs.Batch.{ChangesRules, IsSound, set_after}
use Rattle.range_bits.specs.FieldMap.{IsFieldMap}
use Rattle.rule_model.specs.Entry.{RankedPiece}
use Rattle.tcam_device.specs.declared.Write.{Write}
use Rattle.tcam_device.specs.declared.Action.{Action}
use Rattle.tcam_device.specs.State.{State, IsInUse, IsState, Shows, state_after}
use Rattle.tcam_device.specs.Flight.{writes_in}
use Rattle.tcam_device.specs.Order.{IsOrdered, AreAlike, HasOneTwin}
use Rattle.tcam_device.specs.Hitless.{ShowsOldOrNew}
use Rattle.commit_writes.specs.Actions.{IsReturn}
use Rattle.commit_writes.specs.Bits.{FieldBits}
use Rattle.commit_writes.specs.Commit.{IsSegment}
use Rattle.commit_writes.specs.Segments.{MayBegin}
use Rattle.commit_writes.specs.Serving.{HaveFreeBits}
use Rattle.commit_writes.specs.Shape.{HasShape}
use Rattle.readback.specs.Tasks.{Task, Insert, CommitPieces, commit_pieces, IsStanding, IsDone, IsLeft}
use Rattle.readback.specs.Stage.{IsCommitAt, IsStage, IsTwinSlot}
use Rattle.readback.specs.Fault.{AreSetBits}
use Rattle.readback.specs.Going.{due_in, restart_front}

-- A set of rules with right conditions and its bits, and a sound batch of changes to it whose new ranges fit the free bits.
pub record CanCommit (mode : Mode) (bits : FieldBits) (rules : List Rule) (batch : List Command) : Type 0 where
  pub is_set : IsRuleSet rules
  pub right : AllByRecursion HasConditions rules
  pub src_map : IsFieldMap bits.src
  pub dst_map : IsFieldMap bits.dst
  pub bits_are : AreSetBits mode rules bits
  pub changes : AllByRecursion ChangesRules batch
  pub sound : IsSound rules batch
  pub few : HaveFreeBits mode rules batch

-- slots past those in use are empty
abbrev pub HasUnused : ℕ → State → Type 0
HasUnused slots state = (at : ℕ) → slots ≤ at → slot state.slots at ≡ None

-- While insertions that are left are made: the slots past those in use are empty, and at most one slot is a twin; order for
-- the old pieces and the first of the inserted ones; in the end all of these stand, and no slot is a twin.
pub record KeepsRest (slots : ℕ) (pieces : CommitPieces) (start : State) (left : List Task) (inserted : List Write) : Type 0 where
  pub unused : (n : ℕ) → n ≤ length inserted → HasUnused slots (state_after start (take n inserted))
  pub twins : (n : ℕ) → n ≤ length inserted → HasOneTwin (state_after start (take n inserted)).slots
  pub in_order : (x : RankedPiece) → Contains left (Insert x) → (n : ℕ) → n ≤ length inserted
      → (k : ℕ) × IsOrdered (state_after start (take n inserted)) (Contains (pieces.old ++ take k pieces.inserted))
  pub arrive : (x : RankedPiece) → Contains pieces.inserted x → IsStanding (state_after start inserted) x
  pub once : IsTwinSlot (state_after start inserted).slots None

-- a stage answers every key as the old set or as the new one,
abbrev pub StagesAnswerOldOrNew : Type 0
StagesAnswerOldOrNew =
    (slots device_slots : ℕ) (mode : Mode) (bits : FieldBits) (rules : List Rule) (batch : List Command) (state : State)
    → CanCommit mode bits rules batch → IsState device_slots state → IsStage slots mode bits rules batch state → ShowsOldOrNew state rules (set_after rules batch)

-- and one with no task left as the new one
abbrev pub LastStagesAnswerNew : Type 0
LastStagesAnswerNew =
    (slots device_slots : ℕ) (mode : Mode) (bits : FieldBits) (rules : List Rule) (batch : List Command) (state : State) (done : List Task)
    → CanCommit mode bits rules batch → IsState device_slots state → IsCommitAt slots mode bits rules batch state done [] → Shows state (set_after rules batch)

-- a segment that writes slots in use alone passes only stages,
abbrev pub SegmentsPassStages : Type 0
SegmentsPassStages =
    (slots : ℕ) (mode : Mode) (bits : FieldBits) (rules : List Rule) (batch : List Command) (state : State) (made : List Write)
    → MayBegin mode bits rules batch state → IsSegment mode bits rules batch state made → HasUnused slots state → AllByRecursion (IsInUse slots) made
    → (n : ℕ) → IsStage slots mode bits rules batch (state_after state (take n made))

-- and so does its return
abbrev pub ReturnsPassStages : Type 0
ReturnsPassStages =
    (slots : ℕ) (mode : Mode) (bits : FieldBits) (rules : List Rule) (batch : List Command) (state : State) (actions : List Action)
    → MayBegin mode bits rules batch state → (back : IsReturn mode bits rules batch state actions) → HasUnused slots state → AllByRecursion (IsInUse slots) back.made
    → (n : ℕ) → IsStage slots mode bits rules batch (state_after state (take n (writes_in actions)))

-- what going on from a stage passes and where it ends
pub record PassesStages (slots : ℕ) (mode : Mode) (bits : FieldBits) (rules : List Rule) (batch : List Command) (state : State) (writes : List Write) : Type 0 where
  pub stages : (n : ℕ) → IsStage slots mode bits rules batch (state_after state (take n writes))
  pub ended : (done : List Task) × IsCommitAt slots mode bits rules batch (state_after state writes) done []
  pub alone : IsTwinSlot (state_after state writes).slots None

-- from a stage the writes that go on, with insertions that keep the order, pass only stages, and end at one with no task left
-- and no twin
abbrev pub RestsPassStages : Type 0
RestsPassStages =
    (slots device_slots : ℕ) (mode : Mode) (bits : FieldBits) (rules : List Rule) (batch : List Command) (state : State) (done left : List Task) (twin : Option ℕ) (writes : List Write)
    → CanCommit mode bits rules batch → IsState device_slots state
    → IsCommitAt slots mode bits rules batch state done left → IsTwinSlot state.slots twin → (shape : HasShape (restart_front mode bits rules batch state twin) (due_in left) state writes)
    → KeepsRest slots (commit_pieces mode bits rules batch) (state_after state (restart_front mode bits rules batch state twin)) left shape.inserted
    → PassesStages slots mode bits rules batch state writes

-- in other words: of three slots no three hold one piece, and two pairs of slots that hold one piece are one pair
abbrev pub OnePieceStandsTwice : Type 0
OnePieceStandsTwice =
    (state : State) → HasOneTwin state.slots
    → ((i j k : ℕ) → AreAlike state.slots i j → AreAlike state.slots j k → ⊥)
    × ((i j k l : ℕ) → AreAlike state.slots i j → AreAlike state.slots k l → (i ≡ k) × (j ≡ l))

-- a state tells how many tasks are done: there is one way to part them
abbrev pub TasksPartOnce : Type 0
TasksPartOnce =
    (state : State) (done left done' left' : List Task) → done ++ left ≡ done' ++ left'
    → AllByRecursion (IsDone state) done → AllByRecursion (IsLeft state) left → AllByRecursion (IsDone state) done' → AllByRecursion (IsLeft state) left'
    → (done ≡ done') × (left ≡ left')
