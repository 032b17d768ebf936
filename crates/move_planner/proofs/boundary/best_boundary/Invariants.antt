use Rattle.std.proofs.Common.{◌-◌, ◌≤◌}
use Rattle.move_planner.specs.Boundary.{IsTallied}
use Rattle.move_planner.proofs.Tallied.{IsChosenBefore}
use Rattle.move_planner.proofs.boundary.best_boundary.Given as goal

-- the tally of the boundary, and the best one before it
abbrev pub invariant-loop-cut : goal.invariant-loop-cut
invariant-loop-cut l = record {
  low : l.sides.start ≤ l.cut;
  high : l.cut ≤ l.sides.end;
  tallied : IsTallied l.slots l.sides l.tally l.cut;
  chosen : IsChosenBefore l.slots l.sides l.cut l.choice;
}

abbrev pub decreases-loop-cut : goal.decreases-loop-cut
decreases-loop-cut l = l.sides.end - l.cut
