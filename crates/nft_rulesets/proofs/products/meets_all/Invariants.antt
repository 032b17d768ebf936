use Rattle.std.proofs.Common.{◌≡◌, ◌++◌, drop}
use Rattle.nft_rulesets.specs.Products.{meets_all}
use Rattle.nft_rulesets.proofs.products.meets_all.Given as goal

abbrev pub invariant-loop-one : goal.invariant-loop-one
invariant-loop-one l = record { put : l.both.items ++ meets_all (drop l.one-index l.tests) l.others ≡ meets_all l.tests l.others }
