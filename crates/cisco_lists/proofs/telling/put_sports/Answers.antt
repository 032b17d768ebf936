use Rattle.std.proofs.Common.{refl, sym, ◌∙◌, arith}
use Rattle.cisco_lists.proofs.LineSteps.{no_span, sport-on, sport-end}
use Rattle.cisco_lists.proofs.telling.put_sports.Goals as goal

pub loop-sport-preserved : goal.loop-sport-preserved
loop-sport-preserved c = record {
  text = c.loop-sport.invariant.text
      ∙ sport-on c.args.entry.now c.loop-sport.next _ c.loop-sport.sport-index c.args.sports.now _ _ no_span _ _ (omega arith) refl c.destination_ports-dports.ensures.value c.in_ok-next.ensures.lines c.in_ok-next.ensures.next;
  small = omega (arith, c.in_ok-next.ensures.next);
}

pub returns : goal.returns
returns c = sym (c.loop-sport.invariant.text ∙ sport-end c.args.entry.now _ c.loop-sport.sport-index c.args.sports.now _ (omega arith))
