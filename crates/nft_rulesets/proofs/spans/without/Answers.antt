use Rattle.std.proofs.Common.{refl, ◌∙◌, arith}
use Rattle.nft_rulesets.proofs.Loops.{without-next}
use Rattle.nft_rulesets.proofs.spans.without.Goals as goal

pub loop-span-preserved : goal.loop-span-preserved
loop-span-preserved c = record {
  same = c.loop-span.invariant.same
      ∙ without-next c.args.cut.now c.args.spans.now c.loop-span.span-index _ _ _ _ _ (omega arith) refl c.in_ok-put_below.ensures c.in_ok-put_above.ensures;
}
