use Rattle.std.proofs.Common.{◌≡◌, ◌+◌, ◌-◌, ◌<◌, ◌≤◌}
use Rattle.slot_moves.specs.Cuts.{free_behind}
use Rattle.move_planner.proofs.boundary.free_within.Given as goal

-- the free slots up to the last one that was found
abbrev pub invariant-loop-next : goal.invariant-loop-next
invariant-loop-next l = record {
  is : l.count + free_behind (l.last + 1) l.slots ≡ free_behind l.start l.slots;
  few : l.count + l.start ≤ l.last + 1;
  low : l.start ≤ l.last;
  high : l.last < l.end;
}

abbrev pub decreases-loop-next : goal.decreases-loop-next
decreases-loop-next l = l.end - l.last
