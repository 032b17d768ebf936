-- What follows of a manager from what its calls say of it: laws that its callers cite.
use Rattle.std.specs.Prelude.{◌≡◌, ℕ, ◌+◌, ◌++◌, List, Option, None, Result, length}
use Rattle.tcam_device.specs.declared.Action.{Action}
use Rattle.tcam_device.specs.State.{State}
use Rattle.tcam_device.specs.Flight.{writes_in}
use Rattle.tcam_device.specs.View.{DeviceView, HasMade, journal}
use Rattle.rule_store.specs.declared.Command.{Command}
use Rattle.rule_store.specs.Batch.{set_after}
use Rattle.commit_writes.specs.declared.Done.{Done}
use Rattle.batch_order.specs.declared.AbortFault.{AbortFault}
use Rattle.batch_order.specs.declared.Step.{Step}
use Rattle.batch_order.specs.Managed.{HeldCommit, Holds, Managed}
use Rattle.batch_order.specs.Steps.{Aborts, Steps, actions_of}
use Rattle.batch_order.specs.Passed.{GoesBackFrom, WayBackFrom}
use Rattle.batch_order.specs.CarriedOut.{GoesForward, HasCarried, HasRoomBothWays, HasRoomLeft, actions_left, finished, writes_left}

-- whoever has a way back passes no state on it that the commit didn't pass
abbrev pub WaysBackGoBack : Type 0
WaysBackGoBack = (begun : State) (manager : Managed) → WayBackFrom begun manager → GoesBackFrom begun manager

-- What a call leaves of what the next one asks for: how many slots are in use, a commit that goes forward, and the room for
-- what is left of it, one way and both ways.
pub record StepLeaves (old new : Managed) (spare spare' : ℕ) : Type 0 where
  pub slots : new.slots ≡ old.slots
  pub forward : GoesForward old.held → GoesForward new.held
  pub room : HasRoomLeft old.held spare → HasRoomLeft new.held spare'
  pub both_ways : HasRoomBothWays old.held spare → HasRoomBothWays new.held spare'

-- a step takes the memory of what it made, and leaves the rest, also where it was made over no device
abbrev pub StepsLeave : Type 0
StepsLeave =
    (old : Managed) (words : ℕ) (made : Step) (new : Managed) (spare spare' : ℕ) → Steps old words old.held made new
    → spare' + length (actions_of made) ≡ spare → StepLeaves old new spare spare'

-- a commit that was planned for a batch and carried to its end has the rules behind that batch
abbrev pub CarryingTakesRules : Type 0
CarryingTakesRules =
    (was old new : Managed) (batch : List Command) (counts : Done) → Holds was batch counts old → new ≡ finished old
    → new.rules ≡ set_after was.rules batch

-- A commit that was carried to its end: its actions are the last of the device's events, and its writes of the journal.
pub record HasCarriedAll (held : Option HeldCommit) (before after : DeviceView) : Type 0 where
  pub events : after.events ≡ before.events ++ actions_left held
  pub journal : journal after ≡ journal before ++ writes_left held
  pub spare : after.spare + length (actions_left held) ≡ before.spare

abbrev pub CarryingEnds : Type 0
CarryingEnds =
    (old new : Option HeldCommit) (before after : DeviceView) → HasCarried old new before after → new ≡ None → HasCarriedAll old before after

-- what was made of a device is the last of its journal
abbrev pub JournalsGrow : Type 0
JournalsGrow =
    (actions : List Action) (old new : DeviceView) → HasMade actions old new → journal new ≡ journal old ++ writes_in actions

-- What turning a commit round leaves: state and slots, and where there was room both ways, room for the way back.
pub record TurnLeaves (old new : Managed) : Type 0 where
  pub state : new.state ≡ old.state
  pub slots : new.slots ≡ old.slots
  pub room : (spare : ℕ) → HasRoomBothWays old.held spare → HasRoomLeft new.held spare
  pub both_ways : (spare : ℕ) → HasRoomBothWays old.held spare → HasRoomBothWays new.held spare

abbrev pub TurnsLeave : Type 0
TurnsLeave = (old new : Managed) (result : Result ℕ AbortFault) → Aborts old old.held result new → TurnLeaves old new
