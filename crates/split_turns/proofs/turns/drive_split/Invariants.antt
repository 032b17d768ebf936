use Rattle.std.proofs.Common.{◌≡◌, ◌+◌, ◌≤◌, length, take, vec_capacity}
use Rattle.commit_writes.specs.InFlight.{AreCurrent}
use Rattle.batch_order.specs.Managed.{live_now}
use Rattle.split_order.specs.Left.{left_of}
use Rattle.split_turns.proofs.Drives.{SoFar}
use Rattle.split_turns.proofs.turns.drive_split.Given as goal

abbrev pub invariant-loop-place : goal.invariant-loop-place
invariant-loop-place g l = record {
  so_far : SoFar (g.D.SplitDevice.slot_count l.initial.device) l.initial.manager (g.D.SplitDevice.flight l.initial.device) (take l.place l.turns) l.answers.items l.manager
      (g.D.SplitDevice.flight l.device);
  few : length l.answers.items ≤ l.place;
  capacity : length l.turns ≤ vec_capacity l.answers;
  slots : l.manager.whole.slots ≤ g.D.SplitDevice.slot_count l.device;
  spare : g.D.SplitDevice.spare l.device + length (g.D.SplitDevice.events l.device) ≡ g.D.SplitDevice.spare l.initial.device + length (g.D.SplitDevice.events l.initial.device);
  room : length (left_of (g.D.SplitDevice.slot_count l.device) l.manager) ≤ g.D.SplitDevice.spare l.device;
  on : g.D.SplitDevice.events l.device ≡ l.manager.events;
  current : AreCurrent (live_now l.manager.whole) (g.D.SplitDevice.flight l.device).words;
  slot_count : g.D.SplitDevice.slot_count l.device ≡ g.D.SplitDevice.slot_count l.initial.device;
  faults : g.D.SplitDevice.faults l.device ≡ g.D.SplitDevice.faults l.initial.device;
}
