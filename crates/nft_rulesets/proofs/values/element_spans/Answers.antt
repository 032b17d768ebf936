use Rattle.std.proofs.Common.{◌∙◌, arith}
use Rattle.nft_rulesets.proofs.Loops.{span-next}
use Rattle.nft_rulesets.proofs.values.element_spans.Goals as goal

pub loop-item-preserved : goal.loop-item-preserved
loop-item-preserved c = record {
  same = c.loop-item.invariant.same
      ∙ span-next c.args.field c.args.version c.args.items.now c.loop-item.item-index c.item-item.result c.item-item.result _ _ _ (omega arith) c.item-item.is c.in-Some.ensures c.in_ok-push-in-Some.ensures.items;
}
