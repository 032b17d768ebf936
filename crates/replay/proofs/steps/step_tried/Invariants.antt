use Rattle.std.proofs.Common.{◌≡◌, ◌+◌, ◌-◌, ◌^◌, ◌<◌, ◌≤◌, min, IsSome}
use Rattle.batch_order.specs.Steps.{next_of}
use Rattle.replay.proofs.steps.step_tried.Given as goal
use Rattle.tcam_device.specs.View.{IsUntouched}

abbrev pub invariant-trying : goal.invariant-trying
invariant-trying g l = record {
  manager : l.manager ≡ l.fn.manager;
  untouched : IsUntouched (g.D.Writable.view l.fn.device) (g.D.Writable.view l.device);
  below : l.failures < 4;
  due : 0 < l.failures → IsSome (next_of l.manager.held);
  later : (g.D.Writable.view l.fn.device).faults ≤ (g.D.Writable.view l.device).faults;
  most : (g.D.Writable.view l.device).faults ≤ (g.D.Writable.view l.fn.device).faults + l.failures;
  least : min ((g.D.Writable.view l.fn.device).faults + l.failures) (2 ^ 64 - 1) ≤ (g.D.Writable.view l.device).faults;
}

abbrev pub decreases-trying : goal.decreases-trying
decreases-trying g l = 4 - l.failures
