use Rattle.std.proofs.Common.{◌++◌, Option, sym, ap, ◌∙◌, arith}
use Rattle.written_chains.specs.declared.meets.Tests.{Tests}
use Rattle.nft_rulesets.specs.Products.{met_tests}
use Rattle.nft_rulesets.proofs.Loops.{meets-next, meets-end}
use Rattle.nft_rulesets.proofs.products.put_meets.Goals as goal

pub loop-other-preserved : goal.loop-other-preserved
loop-other-preserved c = record {
  put = meets-next c.args.tests.now c.args.others.now c.loop-other.into.items c.put_met.new.into.items c.loop-other.other-index c.other-item.result c.other-item.result (omega arith) c.other-item.is
      (c.in_ok-put_met.ensures ∙ ap (λ (met : Option Tests). c.loop-other.into.items ++ met_tests met) c.meet.ensures)
      ∙ c.loop-other.invariant.put;
}

pub returns : goal.returns
returns c = sym (meets-end c.args.tests.now c.args.others.now _ c.loop-other.other-index (omega arith)) ∙ c.loop-other.invariant.put
