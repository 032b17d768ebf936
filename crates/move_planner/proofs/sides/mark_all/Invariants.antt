use Rattle.std.proofs.Common.{◌≡◌, ◌++◌}
use Rattle.move_planner.specs.Steps.{AreMarked}
use Rattle.move_planner.proofs.sides.mark_all.Given as goal

-- the slots of the ids so far are marked, and those that are left
abbrev pub invariant-loop-other : goal.invariant-loop-other
invariant-loop-other l = record {
  marked : AreMarked l.slots l.start l.yielded l.fn.marks l.marks;
  left : l.yielded ++ l.other-iterator ≡ l.initial.other-iterator;
}
