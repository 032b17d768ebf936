use Rattle.std.proofs.Common.{sym, ◌∙◌, arith}
use Rattle.nft_rulesets.specs.Verdicts.{rule_with}
use Rattle.nft_rulesets.proofs.Loops.{map-next, map-end}
use Rattle.nft_rulesets.proofs.verdicts.put_target.Goals as goal

pub loop-one-preserved : goal.loop-one-preserved
loop-one-preserved c = record {
  put = map-next (rule_with c.args.chain c.args.target) c.args.tests.now _ _ c.loop-one.one-index c.one-item.result c.one-item.result (omega arith) c.one-item.is c.in_ok-push.ensures.items ∙ c.loop-one.invariant.put;
}

pub returns : goal.returns
returns c = sym (map-end (rule_with c.args.chain c.args.target) c.args.tests.now _ c.loop-one.one-index (omega arith)) ∙ c.loop-one.invariant.put
