use Rattle.std.proofs.Common.{sym, ◌∙◌, arith}
use Rattle.fpm_routes.proofs.Lines.{any-here, any-on, any-end}
use Rattle.fpm_routes.proofs.telling.is_commit.Goals as goal

pub loop-change-preserved : goal.loop-change-preserved
loop-change-preserved c = record {
  same = c.loop-change.invariant.same
      ∙ any-on c.args.changes.now c.loop-change.change-index c.change-item.result c.change-item.result (omega arith) c.change-item.is (sym c.is_change.ensures ∙ c.if-is_change.false);
}

pub returns-then-is_change : goal.returns-then-is_change
returns-then-is_change c =
    sym (c.loop-change.invariant.same
    ∙ any-here c.args.changes.now c.loop-change.change-index c.change-item.result c.change-item.result (omega arith) c.change-item.is (sym c.is_change.ensures ∙ c.if-is_change.true))

pub returns : goal.returns
returns c = sym (c.loop-change.invariant.same ∙ any-end c.args.changes.now c.loop-change.change-index (omega arith))
