use Rattle.std.proofs.Common.{sym, ◌∙◌, arith}
use Rattle.written_chains.proofs.Loops.{narrowed-next, narrowed-end}
use Rattle.written_chains.proofs.writing.put_narrowed.Goals as goal

pub loop-line-preserved : goal.loop-line-preserved
loop-line-preserved c = record {
  put = narrowed-next c.args.tests.now c.args.lines.now c.loop-line.into.items c.put_met.new.into.items c.loop-line.line-index c.line-item.result c.line-item.result c.meet.result (omega arith) c.line-item.is c.meet.ensures c.in_ok-put_met.ensures
      ∙ c.loop-line.invariant.put;
}

pub returns : goal.returns
returns c = sym (narrowed-end c.args.tests.now c.args.lines.now _ c.loop-line.line-index (omega arith)) ∙ c.loop-line.invariant.put
