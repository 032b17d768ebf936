-- What can be said of a device at a moment, and what a call changes of it.
use Rattle.std.specs.Prelude.{◌≡◌, ◌+◌, ◌++◌, ℕ, List, length}
use Rattle.tcam_device.specs.declared.Write.{Write}
use Rattle.tcam_device.specs.declared.Action.{Action}
use Rattle.tcam_device.specs.Flight.{Flight, writes_in}
use Rattle.tcam_device.specs.State.{State, replay}

-- A device: how many slots it has; the writes since it was blank, those that were answered Ok, with the drains among
-- them; the words in flight with their keys, the oldest first; how many writes and drains have their memory; and how
-- often a write has failed.
pub record DeviceView : Type 0 where
  pub slots : ℕ
  pub events : List Action
  pub flight : Flight
  pub spare : ℕ
  pub faults : ℕ

-- the writes since it was blank
abbrev pub journal : DeviceView → List Write
journal view = writes_in view.events

-- what its journal left
abbrev pub device_state : DeviceView → State
device_state view = replay view.slots (journal view)

-- Some actions were made in their order, each with its memory. Only failures may have come besides.
pub record HasMade (actions : List Action) (old new : DeviceView) : Type 0 where
  pub events : new.events ≡ old.events ++ actions
  pub spare : new.spare + length actions ≡ old.spare
  pub flight : new.flight ≡ old.flight
  pub slots : new.slots ≡ old.slots

-- Nothing was made. Only failures may have come.
pub record IsUntouched (old new : DeviceView) : Type 0 where
  pub events : new.events ≡ old.events
  pub spare : new.spare ≡ old.spare
  pub flight : new.flight ≡ old.flight
  pub slots : new.slots ≡ old.slots

-- Only memory for writes and drains may have come or gone.
pub record IsSameButSpare (old new : DeviceView) : Type 0 where
  pub events : new.events ≡ old.events
  pub flight : new.flight ≡ old.flight
  pub slots : new.slots ≡ old.slots
  pub faults : new.faults ≡ old.faults

-- Only the words in flight may have changed.
pub record IsSameButFlight (old new : DeviceView) : Type 0 where
  pub events : new.events ≡ old.events
  pub spare : new.spare ≡ old.spare
  pub slots : new.slots ≡ old.slots
  pub faults : new.faults ≡ old.faults
