-- What was made is the first of what was left, and was told; the parts and drains so far and those that are left are all.
use Rattle.std.proofs.Common.{◌≡◌, ◌+◌, ◌*◌, ◌-◌, ◌^◌, ◌<◌, ◌≤◌, Bool, IsSome, length}
use Rattle.script_lines.specs.Given.{counted}
use Rattle.split_device.specs.Flight.{no_flight, written}
use Rattle.split_order.specs.Left.{left_of}
use Rattle.split_order.specs.Steps.{IsPartNext}
use Rattle.split_order.proofs.Carrying.{Goes}
use Rattle.router.specs.Run.{drains_in}
use Rattle.router.proofs.Telling.{TellsOn}
use Rattle.router.proofs.carrying.carry.Given as goal

abbrev pub invariant-carrying : goal.invariant-carrying
invariant-carrying g l = record {
  goes : Goes (g.D.SplitDevice.slot_count l.fn.device) l.fn.manager l.manager (g.D.SplitDevice.events l.fn.device) (g.D.SplitDevice.events l.device) 4 l.failures
      (g.D.SplitDevice.faults l.fn.device) (g.D.SplitDevice.faults l.device);
  slot_count : g.D.SplitDevice.slot_count l.device ≡ g.D.SplitDevice.slot_count l.fn.device;
  flight : g.D.SplitDevice.flight l.device ≡ g.D.SplitDevice.flight l.fn.device;
  empty : g.D.SplitDevice.flight l.device ≡ no_flight;
  wide : l.manager.whole.slots ≤ g.D.SplitDevice.slot_count l.device;
  room : length (left_of (g.D.SplitDevice.slot_count l.device) l.manager) ≤ g.D.SplitDevice.spare l.device;
  count : l.drains + drains_in (left_of (g.D.SplitDevice.slot_count l.fn.device) l.manager) ≡ drains_in (left_of (g.D.SplitDevice.slot_count l.fn.device) l.fn.manager);
  few : drains_in (left_of (g.D.SplitDevice.slot_count l.fn.device) l.fn.manager) < 2 ^ 43;
  number : l.parts + length (written (left_of (g.D.SplitDevice.slot_count l.fn.device) l.manager)) ≡ length (written (left_of (g.D.SplitDevice.slot_count l.fn.device) l.fn.manager));
  few_parts : length (written (left_of (g.D.SplitDevice.slot_count l.fn.device) l.fn.manager)) ≤ 2 ^ 41;
  below : l.failures < 4;
  due : 0 < l.failures → IsPartNext (left_of (g.D.SplitDevice.slot_count l.device) l.manager);
  tells : TellsOn l.fn.telling.trace l.fn.telling.version l.fn.telling.side l.parts (g.D.SplitDevice.events l.fn.device) (g.D.SplitDevice.events l.device)
      (λ (one : Bool). counted one (g.K.Sink.taken l.fn.sink) (g.K.Sink.accepted l.fn.sink)) (λ (one : Bool). counted one (g.K.Sink.taken l.sink) (g.K.Sink.accepted l.sink));
  told : IsSome (g.K.Sink.taken l.fn.sink) → IsSome (g.K.Sink.taken l.sink);
  writes : g.K.Sink.faults l.sink ≡ g.K.Sink.faults l.fn.sink;
}

abbrev pub decreases-carrying : goal.decreases-carrying
decreases-carrying g l = length (left_of (g.D.SplitDevice.slot_count l.device) l.manager) * 4 + (4 - l.failures)
