-- What the manager's calls leave of a device that it leads.
use Rattle.std.proofs.Common.{◌≡◌, ◌≤◌, [], Option, None, sym, subst, ◌∙◌}
use Rattle.tcam_device.specs.View.{DeviceView, journal}
use Rattle.batch_order.specs.Managed.{HeldCommit, IsOn, Managed}
use Rattle.batch_order.specs.CarriedOut.{GoesForward, HasRoomLeft}
use Rattle.batch_order.specs.Laws.{StepLeaves}
use Rattle.route_daemon.specs.Served.{IsLed}

pub led_after : (old new : Managed) (before after : DeviceView) → StepLeaves old new before.spare after.spare → after.slots ≡ before.slots
    → after.flight ≡ before.flight → IsOn after.slots (journal after) new → IsLed old before → IsLed new after
led_after old new before after leaves slots flight on was = record {
  slots = subst (λ n. new.slots ≤ n) (sym slots) (subst (λ n. n ≤ before.slots) (sym leaves.slots) was.slots);
  on = on;
  none_in_flight = flight ∙ was.none_in_flight;
  room = leaves.room was.room;
  forward = leaves.forward was.forward;
}

-- with no commit under way none needs room
pub idle_led : (manager : Managed) (device : DeviceView) → manager.slots ≤ device.slots → IsOn device.slots (journal device) manager → device.flight ≡ []
    → manager.held ≡ None → IsLed manager device
idle_led manager device slots on none_in_flight idle = record {
  slots = slots;
  on = on;
  none_in_flight = none_in_flight;
  room = subst (λ (held : Option HeldCommit). HasRoomLeft held device.spare) (sym idle) tt;
  forward = subst (λ (held : Option HeldCommit). GoesForward held) (sym idle) tt;
}
