use Rattle.std.proofs.Common.{refl, ap, ◌∙◌, arith}
use Rattle.nft_rulesets.specs.Spans.{without}
use Rattle.nft_rulesets.proofs.Loops.{outside-next}
use Rattle.nft_rulesets.proofs.spans.outside_up_to.Goals as goal

pub loop-cut-preserved : goal.loop-cut-preserved
loop-cut-preserved c = record {
  same = c.loop-cut.invariant.same ∙ outside-next c.args.cuts.now _ _ c.loop-cut.cut-index _ _ (omega arith) refl (c.in_ok-left.ensures ∙ ap (without _) c.as_slice.ensures.value);
}
