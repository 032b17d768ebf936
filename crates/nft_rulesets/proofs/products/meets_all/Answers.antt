use Rattle.std.proofs.Common.{sym, ◌∙◌, arith}
use Rattle.nft_rulesets.proofs.Loops.{all-next, all-end}
use Rattle.nft_rulesets.proofs.products.meets_all.Goals as goal

pub loop-one-preserved : goal.loop-one-preserved
loop-one-preserved c = record {
  put = all-next c.args.tests.now c.args.others.now _ _ c.loop-one.one-index c.one-item.result c.one-item.result (omega arith) c.one-item.is c.in_ok-put_meets.ensures ∙ c.loop-one.invariant.put;
}

pub returns : goal.returns
returns c = sym (all-end c.args.tests.now c.args.others.now _ c.loop-one.one-index (omega arith)) ∙ c.loop-one.invariant.put
