use Rattle.std.proofs.Common.{◌≡◌, drop}
use Rattle.nft_rulesets.specs.Spans.{outside, outside_up_to}
use Rattle.nft_rulesets.proofs.spans.outside_up_to.Given as goal

abbrev pub invariant-loop-cut : goal.invariant-loop-cut
invariant-loop-cut l = record { same : outside_up_to l.most l.cuts ≡ outside (drop l.cut-index l.cuts) l.left.items }
