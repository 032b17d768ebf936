use Rattle.std.proofs.Common.{◌≡◌, drop}
use Rattle.nft_rulesets.specs.Products.{are_met}
use Rattle.nft_rulesets.proofs.products.are_met.Given as goal

abbrev pub invariant-loop-one : goal.invariant-loop-one
invariant-loop-one l = record { same : are_met l.tests l.others ≡ are_met (drop l.one-index l.tests) l.others }
