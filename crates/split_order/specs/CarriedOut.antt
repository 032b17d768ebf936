-- What carries a commit under way to its end, and where it stops.
use Rattle.std.specs.Prelude.{◌≡◌, ℕ, ◌<◌, ◌⊎◌, true, Result, Ok, Err, List, [], ◌∷◌, ◌++◌, length, take}
use Rattle.rule_model.specs.declared.Rule.{Rule}
use Rattle.rule_store.specs.declared.Command.{Command}
use Rattle.rule_store.specs.Batch.{set_after}
use Rattle.batch_order.specs.CarriedOut.{finished}
use Rattle.split_device.specs.declared.SplitAction.{SplitAction}
use Rattle.split_device.specs.declared.SplitAction.TheVariants.{Written, Drained}
use Rattle.split_device.specs.Flight.{state_of_events, written}
use Rattle.split_device.specs.Hitless.{ShowsEither}
use Rattle.split_writes.specs.declared.SplitDone.{SplitDone}
use Rattle.split_order.specs.declared.SplitUnfinished.{SplitUnfinished}
use Rattle.split_order.specs.declared.SplitUnfinished.TheVariants as unfinished
use Rattle.split_order.specs.Managed.{SplitManaged, at_rest}
use Rattle.split_order.specs.Left.{left_of}
use Rattle.split_order.specs.Prepared.{HoldsSplit}
use Rattle.split_order.specs.Steps.{IsPartNext, outline}

-- the manager once all that is left was made of a device of so many slots, and the commit under way, if there is one, has come
-- to its end: its planner as at the end of its plan
abbrev pub finished_split : ℕ → SplitManaged → SplitManaged
finished_split slots manager = at_rest (finished manager.whole) (manager.events ++ left_of slots manager)

-- It has come to its end, with its numbers. Where a batch was prepared the rules are the set that the batch leads to.
pub record IsFinished (slots : ℕ) (old : SplitManaged) (done : SplitDone) (new : SplitManaged) : Type 0 where
  pub counts : done ≡ old.counts
  pub new_is : new ≡ finished_split slots old
  pub rules : (was : SplitManaged) (batch : List Command) (numbers : SplitDone) → HoldsSplit was batch numbers old → new.whole.rules ≡ set_after was.whole.rules batch

-- Of what was left these were made, the rest is left, and where the commit leads is as it was; with none made all is, and else
-- the commit is begun, so its plan isn't dropped.
pub record HasMade (slots : ℕ) (made : List SplitAction) (old new : SplitManaged) : Type 0 where
  pub left_is : left_of slots old ≡ made ++ left_of slots new
  pub events : new.events ≡ old.events ++ made
  pub outline_is : outline new.whole ≡ outline old.whole
  pub counts : new.counts ≡ old.counts
  pub none : made ≡ [] → new ≡ old
  pub begun : (made ≡ []) ⊎ (new.begun ≡ true)

-- a drain is next
abbrev pub IsDrainNext : List SplitAction → Type 0
IsDrainNext [] = ⊥
IsDrainNext (Written part ∷ left) = ⊥
IsDrainNext (Drained ∷ left) = Unit {0}

-- Why a commit hasn't finished, where this is left and so many words and found slots are in flight: its next part failed, or
-- its drain waits for them.
abbrev pub SplitStopsBy : List SplitAction → ℕ → SplitUnfinished → Type 0
SplitStopsBy left flying (unfinished.Stuck parts) = IsPartNext left × (parts ≡ length (written left))
SplitStopsBy left flying (unfinished.Waiting waiting parts) =
    IsDrainNext left × (waiting ≡ flying) × (0 < flying) × (parts ≡ length (written left))

-- and where it stands then
pub record IsStoppedBy (slots : ℕ) (old new : SplitManaged) (flying : ℕ) (halt : SplitUnfinished) : Type 0 where
  pub made : List SplitAction
  pub has_made : HasMade slots made old new
  pub why : SplitStopsBy (left_of slots new) flying halt

-- a part failed
abbrev pub IsStuckSplit : Result SplitDone SplitUnfinished → Type 0
IsStuckSplit (Ok done) = ⊥
IsStuckSplit (Err (unfinished.Stuck left)) = Unit {0}
IsStuckSplit (Err (unfinished.Waiting waiting left)) = ⊥

-- From some events of a device to more: before them and after each of them each key is answered as the old rules or the new
-- ones do.
pub record AreServed (slots : ℕ) (before after : List SplitAction) (old new : List Rule) : Type 0 where
  pub made : List SplitAction
  pub since : after ≡ before ++ made
  pub during : (n : ℕ) → ShowsEither old new (state_of_events slots (before ++ take n made))
