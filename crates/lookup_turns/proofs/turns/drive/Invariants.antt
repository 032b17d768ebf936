use Rattle.std.proofs.Common.{◌≡◌, ◌≤◌, length, take, vec_capacity}
use Rattle.tcam_device.specs.State.{State}
use Rattle.tcam_device.specs.View.{journal}
use Rattle.commit_writes.specs.InFlight.{AreCurrent}
use Rattle.batch_order.specs.Managed.{IsOn, live_now}
use Rattle.batch_order.specs.Passed.{WayBackFrom}
use Rattle.batch_order.specs.CarriedOut.{HasRoomBothWays, HasRoomLeft}
use Rattle.lookup_turns.specs.Turns.{AreDriven}
use Rattle.lookup_turns.proofs.turns.drive.Given as goal

abbrev pub invariant-loop-place : goal.invariant-loop-place
invariant-loop-place g l = record {
  driven : AreDriven (g.D.Writable.view l.initial.device) (g.D.Writable.view l.device) l.initial.manager (take l.place l.turns) l.answers.items l.manager;
  few : length l.answers.items ≤ l.place;
  capacity : length l.turns ≤ vec_capacity l.answers;
  slots : l.manager.slots ≤ (g.D.Writable.view l.device).slots;
  room : HasRoomLeft l.manager.held (g.D.Writable.view l.device).spare;
  on : IsOn (g.D.Writable.view l.device).slots (journal (g.D.Writable.view l.device)) l.manager;
  current : AreCurrent (live_now l.manager) (g.D.Writable.view l.device).flight;
  both : HasRoomBothWays l.initial.manager.held (g.D.Writable.view l.initial.device).spare → HasRoomBothWays l.manager.held (g.D.Writable.view l.device).spare;
  way : (begun : State) → WayBackFrom begun l.initial.manager → WayBackFrom begun l.manager;
  faults : (g.D.Writable.view l.device).faults ≡ (g.D.Writable.view l.initial.device).faults;
}
