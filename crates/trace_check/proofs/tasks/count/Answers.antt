use Rattle.std.proofs.Common.{◌≡◌, ◌+◌, sym, ◌∙◌, ap, arith}
use Rattle.std.specs.Prelude.{nat_lt}
use Rattle.readback.specs.Tasks.{piece_of, is_done}
use Rattle.trace_check.specs.Behind.{entries_in, task_by_kind, done_behind, ArePlacedTasks}
use Rattle.trace_check.proofs.PlacedTasks.{status, done_next, left_next, early_next}
use Rattle.trace_check.proofs.tasks.count.Goals as goal
use Rattle.trace_check.proofs.tasks.count.Goals.{then-not-is_done, else-not-is_done+then-came-eq0}

pub returns-else-came-eq0-clause-early : goal.returns-else-came-eq0-clause-early
returns-else-came-eq0-clause-early c _ placed first later parted =
    let more = c.if-came-eq0.false in (
      (piece_of (task_by_kind c.args.kind c.piece-item.result)).rank,
      early_next (entries_in c.args.places.now) c.args.kind first c.args.pieces.now c.loop-piece.piece-index c.piece-item.result c.loop-piece.came.done c.loop-piece.came.left c.loop-piece-test.true c.piece-item.is
          (c.loop-piece.invariant.parted placed first parted) later (omega arith) (sym is ∙ (sym c.is_done.ensures ∙ c.if-not-is_done.false)),
    )
  where
    is : done_behind c.args.places.now c.args.at c.args.before.now (nat_lt (c.loop-piece.came.done + c.loop-piece.came.left) c.args.were_done) (task_by_kind c.args.kind c.piece-item.result)
        ≡ is_done (entries_in c.args.places.now) (task_by_kind c.args.kind c.piece-item.result)
    is = ap (λ n. done_behind c.args.places.now c.args.at c.args.before.now (nat_lt n c.args.were_done) (task_by_kind c.args.kind c.piece-item.result)) c.loop-piece.invariant.number
        ∙ status c.args.places.now c.args.at c.args.before.now c.args.kind c.args.pieces.now (c.args.earlier.done + c.args.earlier.left) c.args.were_done c.loop-piece.piece-index c.piece-item.result placed
        c.loop-piece-test.true (sym c.piece-item.is)

pub loop-piece-preserved : goal.loop-piece-preserved
loop-piece-preserved c = elim c.if-not-is_done.branch [
  | then-not-is_done w ↦ rw w.came-is (record {
    number = let n = c.loop-piece.invariant.number in omega arith;
    parted = λ placed first parted. left_next (entries_in c.args.places.now) c.args.kind first c.args.pieces.now c.loop-piece.piece-index c.piece-item.result c.loop-piece.came.done c.loop-piece.came.left
        c.loop-piece-test.true c.piece-item.is (c.loop-piece.invariant.parted placed first parted) (sym (is placed) ∙ (sym c.is_done.ensures ∙ w.if-not-is_done.true));
  })
  | else-not-is_done+then-came-eq0 w ↦ rw w.came-is (record {
    number = let n = c.loop-piece.invariant.number in omega arith;
    parted = λ placed first parted. done_next (entries_in c.args.places.now) c.args.kind first c.args.pieces.now c.loop-piece.piece-index c.piece-item.result c.loop-piece.came.done c.loop-piece.came.left
        c.loop-piece-test.true c.piece-item.is (c.loop-piece.invariant.parted placed first parted) w.if-came-eq0.true (sym (is placed) ∙ (sym c.is_done.ensures ∙ w.if-not-is_done.false));
  })
]
  where
    is : ArePlacedTasks c.args.places.now c.args.at c.args.before.now c.args.kind c.args.pieces.now (c.args.earlier.done + c.args.earlier.left) c.args.were_done
        → done_behind c.args.places.now c.args.at c.args.before.now (nat_lt (c.loop-piece.came.done + c.loop-piece.came.left) c.args.were_done) (task_by_kind c.args.kind c.piece-item.result)
        ≡ is_done (entries_in c.args.places.now) (task_by_kind c.args.kind c.piece-item.result)
    is placed = ap (λ n. done_behind c.args.places.now c.args.at c.args.before.now (nat_lt n c.args.were_done) (task_by_kind c.args.kind c.piece-item.result)) c.loop-piece.invariant.number
        ∙ status c.args.places.now c.args.at c.args.before.now c.args.kind c.args.pieces.now (c.args.earlier.done + c.args.earlier.left) c.args.were_done c.loop-piece.piece-index c.piece-item.result placed
        c.loop-piece-test.true (sym c.piece-item.is)
