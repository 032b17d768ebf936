-- A commit under way by parts: what is left of it, from its first write or drain to its last.
use Rattle.std.specs.Prelude.{ℕ, List, ◌∷◌, ◌++◌, take}
use Rattle.rule_model.specs.declared.Rule.{Rule}
use Rattle.tcam_device.specs.State.{Shows}
use Rattle.tcam_device.specs.Hitless.{ShowsOldOrNew}
use Rattle.commit_writes.specs.Bits.{FieldBits}
use Rattle.commit_writes.specs.InFlight.{AreCurrent, ArePartOf}
use Rattle.split_device.specs.State.{SplitState, undivided, split_apply, split_after}
use Rattle.split_device.specs.declared.SplitWrite.{SplitWrite}
use Rattle.split_device.specs.declared.SplitAction.{SplitAction}
use Rattle.split_device.specs.declared.SplitAction.TheVariants.{Written, Drained}
use Rattle.split_device.specs.Flight.{Event, Pipeline, after_events, written}
use Rattle.split_device.specs.Drains.{SinceDrain, nothing_since, since_write, since_events, AreTimely}
use Rattle.split_device.specs.Waiting.{AreWaiting}
use Rattle.split_device.specs.Hitless.{AreBetweenSets}
use Rattle.split_writes.specs.InFlight.{ServingTo, MayGo, made_in}

-- What is left leads to the new set: an undivided look-up of any key gets the old or the new answer after each write, each
-- write stands in its time, and the device serves the live ranges that the words in flight are current for.
pub record IsUnderWay (old new : List Rule) (bits last : FieldBits) (state : SplitState) (since : SinceDrain) (left : List SplitAction) : Type 0 where
  pub timely : AreTimely state since left
  pub serving : ServingTo bits state left last
  pub during : (n : ℕ) → ShowsOldOrNew (undivided (split_after state (take n (written left)))) old new
  pub after : Shows (undivided (split_after state (written left))) new

-- after a write it is so still, with the ranges that are live then,
abbrev pub GoesOnByWrites : Type 0
GoesOnByWrites =
    (old new : List Rule) (bits last : FieldBits) (state : SplitState) (since : SinceDrain) (write : SplitWrite) (left : List SplitAction)
    → IsUnderWay old new bits last state since (Written write ∷ left)
    → (next : FieldBits) × ArePartOf next bits × IsUnderWay old new next last (split_apply state write) (since_write since write) left

-- and after a drain,
abbrev pub GoesOnByDrains : Type 0
GoesOnByDrains =
    (old new : List Rule) (bits last : FieldBits) (state : SplitState) (since : SinceDrain) (left : List SplitAction)
    → IsUnderWay old new bits last state since (Drained ∷ left) → (next : FieldBits) × IsUnderWay old new next last state nothing_since left

-- What is in flight while a commit is under way: words that are current for the ranges that are live now, and look-ups that
-- wait as they may.
pub record IsInFlight (bits : FieldBits) (since : SinceDrain) (line : Pipeline) : Type 0 where
  pub words : AreCurrent bits line.words
  pub waiting : AreWaiting line.state since line.looks

-- and after any events in which the first of what was left is made: so it goes on from there.
abbrev pub GoesOnByEvents : Type 0
GoesOnByEvents =
    (old new : List Rule) (bits last : FieldBits) (line : Pipeline) (since : SinceDrain) (left : List SplitAction) (events : List Event)
    → IsUnderWay old new bits last line.state since (made_in events ++ left) → IsInFlight bits since line → MayGo line events
    → ((next : FieldBits) × IsUnderWay old new next last (after_events line events).state (since_events since events) left
    × IsInFlight next (since_events since events) (after_events line events))
    × (AreBetweenSets old new line.looks → AreBetweenSets old new (after_events line events).looks)
