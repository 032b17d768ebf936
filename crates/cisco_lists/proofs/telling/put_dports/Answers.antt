use Rattle.std.proofs.Common.{refl, sym, ◌∙◌, arith}
use Rattle.cisco_lists.proofs.LineSteps.{no_span, dport-on, dport-end}
use Rattle.cisco_lists.proofs.telling.put_dports.Goals as goal

pub loop-dport-preserved : goal.loop-dport-preserved
loop-dport-preserved c = record {
  text = c.loop-dport.invariant.text
      ∙ dport-on c.args.entry.now c.args.sport c.loop-dport.next c.loop-dport.dport-index c.args.dports.now _ no_span _ _ (omega arith) refl c.in_ok-put_rule.ensures;
  next = omega arith;
}

pub returns-clause-lines : goal.returns-clause-lines
returns-clause-lines c = sym (c.loop-dport.invariant.text ∙ dport-end c.args.entry.now c.args.sport _ c.loop-dport.dport-index c.args.dports.now _ (omega arith))
