use Rattle.std.proofs.Common.{◌-◌, ◌≤◌}
use Rattle.placement.specs.Live.{is_above}
use Rattle.move_planner.proofs.Pushed.{LeadSoFar}
use Rattle.move_planner.proofs.sides.mark_before.Given as goal

-- the marks so far
abbrev pub invariant-loop-slot : goal.invariant-loop-slot
invariant-loop-slot l = record {
  low : l.start ≤ l.to;
  high : l.to ≤ l.end;
  so_far : LeadSoFar (is_above l.index.live) l.slots l.id l.start l.end l.to l.marks;
}

abbrev pub decreases-loop-slot : goal.decreases-loop-slot
decreases-loop-slot l = l.to - l.start
