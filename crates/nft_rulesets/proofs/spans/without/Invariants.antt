use Rattle.std.proofs.Common.{◌≡◌, ◌++◌, drop}
use Rattle.nft_rulesets.specs.Spans.{without}
use Rattle.nft_rulesets.proofs.spans.without.Given as goal

abbrev pub invariant-loop-span : goal.invariant-loop-span
invariant-loop-span l = record { same : without l.cut l.spans ≡ l.left.items ++ without l.cut (drop l.span-index l.spans) }
