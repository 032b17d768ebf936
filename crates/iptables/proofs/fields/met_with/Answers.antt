use Rattle.std.proofs.Common.{refl, sym, ◌∙◌, arith}
use Rattle.iptables.specs.Values.{met_each, met_with}
use Rattle.iptables.proofs.Loops.{each-end, each-next}
use Rattle.iptables.proofs.fields.met_with.Goals as goal

pub loop-each-preserved : goal.loop-each-preserved
loop-each-preserved c = record {
  put = each-next (λ t. met_with t c.args.others.now) (λ t. met_each t c.args.others.now) (λ t ts. refl) c.args.tests.now c.loop-each.met.items c.put_each.new.into.items c.loop-each.each-index c.each-item.result c.each-item.result
      (omega arith) c.each-item.is c.in_ok-put_each.ensures
      ∙ c.loop-each.invariant.put;
}

pub returns : goal.returns
returns c = sym (each-end (λ t. met_with t c.args.others.now) refl c.args.tests.now _ c.loop-each.each-index (omega arith)) ∙ c.loop-each.invariant.put
