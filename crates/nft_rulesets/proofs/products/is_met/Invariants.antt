use Rattle.std.proofs.Common.{◌≡◌, drop}
use Rattle.nft_rulesets.specs.Products.{is_met}
use Rattle.nft_rulesets.proofs.products.is_met.Given as goal

abbrev pub invariant-loop-other : goal.invariant-loop-other
invariant-loop-other l = record { same : is_met l.tests l.others ≡ is_met l.tests (drop l.other-index l.others) }
