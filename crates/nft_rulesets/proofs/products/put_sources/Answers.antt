use Rattle.std.proofs.Common.{sym, ◌∙◌, arith}
use Rattle.nft_rulesets.specs.Products.{source_test}
use Rattle.nft_rulesets.proofs.Loops.{map-made, map-end}
use Rattle.nft_rulesets.proofs.products.put_sources.Goals as goal

pub loop-block-preserved : goal.loop-block-preserved
loop-block-preserved c = record {
  put = map-made source_test c.args.blocks.now _ _ c.loop-block.block-index c.block-item.result c.block-item.result c.source_test.result (omega arith) c.block-item.is c.source_test.ensures c.in_ok-push.ensures.items ∙ c.loop-block.invariant.put;
}

pub returns : goal.returns
returns c = sym (map-end source_test c.args.blocks.now _ c.loop-block.block-index (omega arith)) ∙ c.loop-block.invariant.put
