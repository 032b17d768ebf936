use Rattle.std.proofs.Common.{◌≡◌, ◌++◌, drop}
use Rattle.nft_rulesets.specs.Products.{meets_one}
use Rattle.nft_rulesets.proofs.products.put_meets.Given as goal

abbrev pub invariant-loop-other : goal.invariant-loop-other
invariant-loop-other l = record { put : l.into.items ++ meets_one l.tests (drop l.other-index l.others) ≡ l.fn.into.items ++ meets_one l.tests l.others }
