use Rattle.std.proofs.Common.{◌++◌, refl, sym, ap, ◌∙◌, arith}
use Rattle.written_chains.specs.Meets.{meet}
use Rattle.iptables.specs.Values.{met_each, met_tests}
use Rattle.iptables.proofs.Loops.{each-end, each-next}
use Rattle.iptables.proofs.fields.put_each.Goals as goal

pub loop-other-preserved : goal.loop-other-preserved
loop-other-preserved c = record {
  put = each-next (λ o. met_each c.args.tests.now o) (λ o. met_tests (meet c.args.tests.now o)) (λ o os. refl) c.args.others.now c.loop-other.into.items c.put_met.new.into.items c.loop-other.other-index c.other-item.result c.other-item.result
      (omega arith) c.other-item.is (c.in_ok-put_met.ensures ∙ ap (λ m. c.loop-other.into.items ++ met_tests m) c.meet.ensures)
      ∙ c.loop-other.invariant.put;
}

pub returns : goal.returns
returns c = sym (each-end (λ o. met_each c.args.tests.now o) refl c.args.others.now _ c.loop-other.other-index (omega arith)) ∙ c.loop-other.invariant.put
