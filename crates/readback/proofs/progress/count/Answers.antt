use Rattle.std.proofs.Common.{◌++◌, map, sym, ◌∙◌, subst, arith}
use Rattle.readback.specs.Progress.{IsOutOfTurn, task_of}
use Rattle.readback.proofs.Counted.{early_at, done_at, left_at}
use Rattle.readback.proofs.progress.count.Goals as goal
use Rattle.readback.proofs.progress.count.Goals.{then-not-is_done, else-not-is_done+then-came-eq0}

pub returns-else-came-eq0-clause-early : goal.returns-else-came-eq0-clause-early
returns-else-came-eq0-clause-early c before later parted =
    let more = c.if-came-eq0.false in
    subst (IsOutOfTurn c.args.held.now (before ++ (map (task_of c.args.kind) c.args.pieces.now ++ later))) (sym c.rank.ensures)
    (early_at c.args.held.now c.args.kind before later c.args.pieces.now c.loop-piece.piece-index c.piece-item.result c.loop-piece.came.done c.loop-piece.came.left c.loop-piece-test.true c.piece-item.is
    (c.loop-piece.invariant.parted before parted) (omega arith) (sym c.is_done.ensures ∙ c.if-not-is_done.false))

pub loop-piece-preserved : goal.loop-piece-preserved
loop-piece-preserved c = elim c.if-not-is_done.branch [
  | then-not-is_done w ↦ rw w.came-is (record {
    number = let n = c.loop-piece.invariant.number in omega arith;
    parted = λ before parted. left_at c.args.held.now c.args.kind before c.args.pieces.now c.loop-piece.piece-index c.piece-item.result c.loop-piece.came.done c.loop-piece.came.left c.loop-piece-test.true c.piece-item.is
        (c.loop-piece.invariant.parted before parted) (sym c.is_done.ensures ∙ w.if-not-is_done.true);
  })
  | else-not-is_done+then-came-eq0 w ↦ rw w.came-is (record {
    number = let n = c.loop-piece.invariant.number in omega arith;
    parted = λ before parted. done_at c.args.held.now c.args.kind before c.args.pieces.now c.loop-piece.piece-index c.piece-item.result c.loop-piece.came.done c.loop-piece.came.left c.loop-piece-test.true c.piece-item.is
        (c.loop-piece.invariant.parted before parted) w.if-came-eq0.true (sym c.is_done.ensures ∙ w.if-not-is_done.false);
  })
]
