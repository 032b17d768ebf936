use Rattle.std.proofs.Common.{◌≡◌, ◌-◌, ◌≤◌, length, take}
use Rattle.move_planner.specs.Boundary.{count_marks}
use Rattle.move_planner.proofs.boundary.count.Given as goal

-- the marks so far
abbrev pub invariant-loop-at : goal.invariant-loop-at
invariant-loop-at l = record {
  is : l.count ≡ count_marks (take l.from l.marks);
  few : l.count ≤ l.from;
  inside : l.from ≤ length l.marks;
}

abbrev pub decreases-loop-at : goal.decreases-loop-at
decreases-loop-at l = length l.marks - l.from
