use Rattle.std.proofs.Common.{◌-◌, ◌≤◌}
use Rattle.placement.specs.Live.{is_above}
use Rattle.move_planner.proofs.Pushed.{LedSoFar}
use Rattle.move_planner.proofs.sides.mark_behind.Given as goal

-- the marks so far
abbrev pub invariant-loop-slot : goal.invariant-loop-slot
invariant-loop-slot l = record {
  low : l.start ≤ l.from;
  high : l.from ≤ l.end;
  so_far : LedSoFar (is_above l.index.live) l.slots l.id l.start l.end l.from l.marks;
}

abbrev pub decreases-loop-slot : goal.decreases-loop-slot
decreases-loop-slot l = l.end - l.from
