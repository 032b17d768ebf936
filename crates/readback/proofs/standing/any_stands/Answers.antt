use Rattle.std.proofs.Common.{sym, ◌∙◌}
use Rattle.readback.specs.Tasks.{stands_in}
use Rattle.readback.proofs.Walks.{any_at, none_yet}
use Rattle.readback.proofs.standing.any_stands.Goals as goal

pub returns-then-stands : goal.returns-then-stands
returns-then-stands c =
    sym (any_at (stands_in c.args.held.now) c.args.pieces.now c.loop-piece.piece-index c.piece-item.result c.loop-piece-test.true c.piece-item.is (sym c.stands.ensures ∙ c.if-stands.true))

pub loop-piece-preserved : goal.loop-piece-preserved
loop-piece-preserved c =
    none_yet (stands_in c.args.held.now) c.args.pieces.now c.loop-piece.piece-index c.piece-item.result c.loop-piece-test.true c.piece-item.is c.loop-piece.invariant (sym c.stands.ensures ∙ c.if-stands.false)
