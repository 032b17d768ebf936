use Rattle.std.proofs.Common.{◌+◌, ◌-◌}
use Rattle.move_planner.specs.Noted.{AreNoted}
use Rattle.move_planner.proofs.Begun.{IsBegun}
use Rattle.move_planner.proofs.Uncrossing.{IsUncrossing}
use Rattle.move_planner.specs.Boundary.{IsBestTo}
use Rattle.move_planner.proofs.crossings.uncross.Given as goal

-- the turns so far
abbrev pub invariant-loop-next : goal.invariant-loop-next
invariant-loop-next l = record {
  begun : IsBegun l.index l.id l.fn.slots l.sides;
  best : IsBestTo l.fn.slots l.sides l.sides.end l.boundary;
  turns : IsUncrossing l.index l.id l.fn.slots l.slots l.fn.plan l.plan l.sides l.boundary l.cut;
  noted : AreNoted l.fn.slots l.slots l.fn.plan l.plan l.fn.undo l.undo;
}

abbrev pub decreases-loop-next : goal.decreases-loop-next
decreases-loop-next l = l.cut.low + (l.sides.end - l.cut.high)
