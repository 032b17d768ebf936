use Rattle.std.proofs.Common.{◌≡◌, ◌+◌, List, ◌++◌, map, take}
use Rattle.readback.specs.Progress.{AreParted, task_of}
use Rattle.readback.specs.Tasks.{Task}
use Rattle.readback.proofs.progress.count.Given as goal

-- the tasks of the first pieces
abbrev pub invariant-loop-piece : goal.invariant-loop-piece
invariant-loop-piece l = record {
  number : l.came.done + l.came.left ≡ l.fn.earlier.done + l.fn.earlier.left + l.piece-index;
  parted : (before : List Task) → AreParted l.held before l.fn.earlier.done l.fn.earlier.left
      → AreParted l.held (before ++ map (task_of l.kind) (take l.piece-index l.pieces)) l.came.done l.came.left;
}
