use Rattle.std.proofs.Common.{◌≡◌, ◌+◌, ◌*◌, ◌-◌, ◌<◌, ◌≤◌, length}
use Rattle.commit_writes.specs.InFlight.{AreCurrent}
use Rattle.batch_order.specs.Managed.{live_now}
use Rattle.split_order.specs.Left.{left_of}
use Rattle.split_order.specs.Steps.{IsPartNext}
use Rattle.split_order.proofs.Carrying.{Goes}
use Rattle.split_order.proofs.manager.SplitManager.carry_out.Given as goal

abbrev pub invariant-carrying : goal.invariant-carrying
invariant-carrying g l = record {
  goes : Goes (g.D.SplitDevice.slot_count l.fn.device) l.fn.self l.self (g.D.SplitDevice.events l.fn.device) (g.D.SplitDevice.events l.device) l.tries l.failures
      (g.D.SplitDevice.faults l.fn.device) (g.D.SplitDevice.faults l.device);
  slot_count : g.D.SplitDevice.slot_count l.device ≡ g.D.SplitDevice.slot_count l.fn.device;
  flight : g.D.SplitDevice.flight l.device ≡ g.D.SplitDevice.flight l.fn.device;
  wide : l.self.whole.slots ≤ g.D.SplitDevice.slot_count l.device;
  spare : g.D.SplitDevice.spare l.device + length (g.D.SplitDevice.events l.device) ≡ g.D.SplitDevice.spare l.fn.device + length (g.D.SplitDevice.events l.fn.device);
  room : length (left_of (g.D.SplitDevice.slot_count l.device) l.self) ≤ g.D.SplitDevice.spare l.device;
  current : AreCurrent (live_now l.fn.self.whole) (g.D.SplitDevice.flight l.fn.device).words → AreCurrent (live_now l.self.whole) (g.D.SplitDevice.flight l.device).words;
  below : l.failures < l.tries;
  due : 0 < l.failures → IsPartNext (left_of (g.D.SplitDevice.slot_count l.device) l.self);
}

abbrev pub decreases-carrying : goal.decreases-carrying
decreases-carrying g l = length (left_of (g.D.SplitDevice.slot_count l.device) l.self) * l.tries + (l.tries - l.failures)
