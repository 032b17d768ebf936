-- Runs that may be called again.
use Rattle.std.specs.Prelude.{◌≡◌, ◌≤◌, false}
use Rattle.tcam_device.specs.View.{DeviceView}
use Rattle.commit_writes.specs.InFlight.{AreCurrent}
use Rattle.batch_order.specs.CarriedOut.{HasRoomBothWays}
use Rattle.batch_order.specs.Managed.{live_now}
use Rattle.replay.specs.Carried.{IsAt}
use Rattle.replay.specs.Running.{Running, AreLeft, progress_of}

-- a run that may be called, over a device that is where the run stands, with room for the writes that are left, there and
-- back, and with the words in flight that the run left; its report is in words, so that it takes any act
pub record CanGoOn (run : Running) (device : DeviceView) : Type 0 where
  pub slots : run.manager.slots ≤ device.slots
  pub whole : run.broken ≡ false
  pub words : run.json ≡ false
  pub room : HasRoomBothWays run.manager.held device.spare
  pub in_flight : AreLeft run device.flight
  pub stands : IsAt device.slots device.events (progress_of device.slots run)
  pub current : AreCurrent (live_now run.manager) device.flight
