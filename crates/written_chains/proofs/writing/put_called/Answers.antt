use Rattle.std.proofs.Common.{sym, ◌∙◌, arith}
use Rattle.written_chains.proofs.Loops.{called-next, called-end}
use Rattle.written_chains.proofs.writing.put_called.Goals as goal

pub loop-line-preserved : goal.loop-line-preserved
loop-line-preserved c = record {
  put = called-next c.args.tests.now c.args.called.now c.args.behind.now c.loop-line.into.items c.put_under.new.into.items c.loop-line.line-index c.line-item.result c.line-item.result c.meet.result (omega arith) c.line-item.is c.meet.ensures c.in_ok-put_under.ensures
      ∙ c.loop-line.invariant.put;
}

pub returns : goal.returns
returns c = sym (called-end c.args.tests.now c.args.called.now c.args.behind.now _ c.loop-line.line-index (omega arith)) ∙ c.loop-line.invariant.put
