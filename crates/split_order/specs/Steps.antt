-- What the steps of a manager do.
use Rattle.std.specs.Prelude.{◌≡◌, ℕ, zero, suc, Bool, true, false, ◌&&◌, not, Option, Some, None, is_some, option_map, List, [], ◌∷◌, ◌++◌}
use Rattle.rule_model.specs.declared.Rule.{Rule}
use Rattle.tcam_device.specs.State.{state_after}
use Rattle.commit_writes.specs.Bits.{FieldBits}
use Rattle.commit_writes.specs.InFlight.{ArePartOf}
use Rattle.batch_order.specs.CarriedOut.{finished, writes_left}
use Rattle.batch_order.specs.Managed.{HeldCommit, Managed, live_now}
use Rattle.split_device.specs.declared.SplitAction.{SplitAction}
use Rattle.split_device.specs.declared.SplitAction.TheVariants.{Written, Drained}
use Rattle.split_order.specs.declared.SplitStep.{SplitStep}
use Rattle.split_order.specs.declared.SplitStep.TheVariants as step
use Rattle.split_order.specs.Managed.{SplitManaged, at_rest}
use Rattle.split_order.specs.Left.{left_of}

-- what a step made of the device
abbrev pub made_by : SplitStep → List SplitAction
made_by (step.Wrote write) = Written write ∷ []
made_by step.Drained = Drained ∷ []
made_by (step.Waiting flying) = []
made_by (step.Finished counts) = []
made_by step.Idle = []

-- where a commit leads: the rules, their live ranges, and those that are live meanwhile
abbrev pub commit_aim : HeldCommit → List Rule × FieldBits × FieldBits
commit_aim held = (held.rules, held.bits, held.during)

-- All of the planner that a part or a drain leaves as it was: in the place of what its slots and tables hold, what they will
-- hold once all is made; and where the commit leads.
abbrev pub outline : Managed → Managed × Option (List Rule × FieldBits × FieldBits)
outline whole =
    (record whole { state = state_after whole.state (writes_left whole.held); held = None }, option_map commit_aim whole.held)

-- a part leaves the ranges that words in flight are current for as they are
abbrev pub KeepsRanges : SplitAction → FieldBits → FieldBits → Type 0
KeepsRanges (Written part) before now = now ≡ before
KeepsRanges Drained before now = Unit {0}

-- This was made, the first of what is left on a device of so many slots: the rest is left.
pub record Advances (slots : ℕ) (action : SplitAction) (old new : SplitManaged) : Type 0 where
  pub left_is : left_of slots old ≡ action ∷ left_of slots new
  pub events : new.events ≡ old.events ++ action ∷ []
  pub outline_is : outline new.whole ≡ outline old.whole
  pub begun : new.begun ≡ true
  pub counts : new.counts ≡ old.counts
  pub live : KeepsRanges action (live_now old.whole) (live_now new.whole)

-- The commit has come to its end: its rules are the set's.
abbrev pub ended_split : SplitManaged → HeldCommit → SplitManaged
ended_split old held = at_rest (record old.whole { rules = held.rules; bits = held.bits; held = None }) old.events

-- With nothing left: the planner stands where its plan led then.
abbrev pub Ends : SplitManaged → Option HeldCommit → SplitStep → SplitManaged → Type 0
Ends old None made new = (made ≡ step.Idle) × (new ≡ old)
Ends old (Some held) made new =
    (made ≡ step.Finished old.counts) × (new ≡ ended_split old held) × (new.whole ≡ finished old.whole)

-- What a step does on a device of so many slots with so many words and found slots in flight, where this is left: it makes
-- the next part, or drains, or waits until nothing is in flight.
abbrev pub SplitSteps : ℕ → SplitManaged → ℕ → List SplitAction → SplitStep → SplitManaged → Type 0
SplitSteps slots old flying [] made new = Ends old old.whole.held made new
SplitSteps slots old flying (Written part ∷ left) made new = (made ≡ step.Wrote part) × Advances slots (Written part) old new
SplitSteps slots old zero (Drained ∷ left) made new = (made ≡ step.Drained) × Advances slots Drained old new
SplitSteps slots old (suc flying) (Drained ∷ left) made new = (made ≡ step.Waiting (suc flying)) × (new ≡ old)

-- a step that doesn't drain leaves words in flight current
abbrev pub LeavesCurrent : SplitManaged → SplitStep → SplitManaged → Type 0
LeavesCurrent old step.Drained new = Unit {0}
LeavesCurrent old made new = ArePartOf (live_now new.whole) (live_now old.whole)

-- a part is next
abbrev pub IsPartNext : List SplitAction → Type 0
IsPartNext [] = ⊥
IsPartNext (Written part ∷ left) = Unit {0}
IsPartNext (Drained ∷ left) = ⊥

-- a commit is under way of which nothing was made
abbrev pub is_untouched : SplitManaged → Bool
is_untouched manager = not manager.begun && is_some manager.whole.held

-- where its plan is dropped there is none under way, and else all is as it was
abbrev pub dropped : Bool → SplitManaged → SplitManaged
dropped true old = at_rest (record old.whole { held = None }) old.events
dropped false old = old
