-- What calls leave of a device, one after the other.
use Rattle.std.proofs.Common.{refl, ◌∙◌}
use Rattle.tcam_device.specs.View.{DeviceView, IsSameButFlight}

-- nothing has changed
pub same-none : (view : DeviceView) → IsSameButFlight view view
same-none view = record { events = refl; spare = refl; slots = refl; faults = refl }

-- nothing but the words in flight, twice
pub same-then : (old mid new : DeviceView) → IsSameButFlight old mid → IsSameButFlight mid new → IsSameButFlight old new
same-then old mid new was is = record {
  events = is.events ∙ was.events;
  spare = is.spare ∙ was.spare;
  slots = is.slots ∙ was.slots;
  faults = is.faults ∙ was.faults;
}
