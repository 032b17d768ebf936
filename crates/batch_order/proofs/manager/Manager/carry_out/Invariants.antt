use Rattle.std.proofs.Common.{◌≡◌, ◌+◌, ◌*◌, ◌-◌, ◌<◌, IsSome, length}
use Rattle.tcam_device.specs.State.{State}
use Rattle.tcam_device.specs.View.{journal}
use Rattle.batch_order.specs.Managed.{IsOn}
use Rattle.batch_order.specs.Steps.{next_of}
use Rattle.batch_order.specs.Passed.{WayBackFrom}
use Rattle.batch_order.specs.CarriedOut.{HasRoomLeft, IsServed, actions_left, ahead}
use Rattle.batch_order.specs.Laws.{StepLeaves}
use Rattle.batch_order.proofs.under_way.Tried.{Goes}
use Rattle.batch_order.proofs.manager.Manager.carry_out.Given as goal

abbrev pub invariant-carrying : goal.invariant-carrying
invariant-carrying g l = record {
  goes : Goes l.fn.self l.self (g.D.Writable.view l.fn.device) (g.D.Writable.view l.device) l.tries l.failures;
  slots : l.self.slots ≡ l.fn.self.slots;
  room : HasRoomLeft l.self.held (g.D.Writable.view l.device).spare;
  leaves : StepLeaves l.fn.self l.self (g.D.Writable.view l.fn.device).spare (g.D.Writable.view l.device).spare;
  way : (begun : State) → WayBackFrom begun l.fn.self → WayBackFrom begun l.self;
  on : IsOn (g.D.Writable.view l.fn.device).slots (journal (g.D.Writable.view l.fn.device)) l.fn.self → IsOn (g.D.Writable.view l.device).slots (journal (g.D.Writable.view l.device)) l.self;
  served : IsOn (g.D.Writable.view l.fn.device).slots (journal (g.D.Writable.view l.fn.device)) l.fn.self
      → IsServed (g.D.Writable.view l.device).slots (journal (g.D.Writable.view l.fn.device)) (journal (g.D.Writable.view l.device)) l.fn.self.rules (ahead l.fn.self);
  below : l.failures < l.tries;
  due : 0 < l.failures → IsSome (next_of l.self.held);
}

abbrev pub decreases-carrying : goal.decreases-carrying
decreases-carrying g l = length (actions_left l.self.held) * l.tries + (l.tries - l.failures)
