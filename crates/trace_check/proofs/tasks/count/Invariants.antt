use Rattle.std.proofs.Common.{◌≡◌, ◌+◌, List, ◌++◌, map, take}
use Rattle.readback.specs.Progress.{AreParted}
use Rattle.readback.specs.Tasks.{Task}
use Rattle.trace_check.specs.Behind.{entries_in, task_by_kind, ArePlacedTasks}
use Rattle.trace_check.proofs.tasks.count.Given as goal

-- the tasks of the first pieces
abbrev pub invariant-loop-piece : goal.invariant-loop-piece
invariant-loop-piece l = record {
  number : l.came.done + l.came.left ≡ l.fn.earlier.done + l.fn.earlier.left + l.piece-index;
  parted : ArePlacedTasks l.places l.at l.before l.kind l.pieces (l.fn.earlier.done + l.fn.earlier.left) l.were_done
      → (first : List Task) → AreParted (entries_in l.places) first l.fn.earlier.done l.fn.earlier.left
      → AreParted (entries_in l.places) (first ++ map (task_by_kind l.kind) (take l.piece-index l.pieces)) l.came.done l.came.left;
}
