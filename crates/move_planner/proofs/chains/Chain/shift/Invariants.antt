use Rattle.std.proofs.Common.{◌≡◌, ◌≤◌, drop, length}
use Rattle.move_planner.specs.Noted.{AreNoted}
use Rattle.move_planner.proofs.Shifted.{AreShifted, goes_to}
use Rattle.move_planner.proofs.chains.Chain.shift.Given as goal

-- the members from i on have moved
abbrev pub invariant-loop-i : goal.invariant-loop-i
invariant-loop-i l = record {
  bound : l.i ≤ length l.self.members.items;
  target : l.to ≡ goes_to l.self.free (drop l.i l.self.members.items);
  are : AreShifted l.fn.slots l.fn.plan l.self.free (drop l.i l.self.members.items) l.slots l.plan;
  noted : AreNoted l.fn.slots l.slots l.fn.plan l.plan l.fn.undo l.undo;
}
