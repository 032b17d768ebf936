use Rattle.std.proofs.Common.{◌≡◌, drop}
use Rattle.nft_rulesets.specs.Products.{all_tests}
use Rattle.nft_rulesets.proofs.Loops.{onto_tests}
use Rattle.nft_rulesets.proofs.products.all_tests.Given as goal

abbrev pub invariant-loop-span : goal.invariant-loop-span
invariant-loop-span l = record { same : all_tests l.field l.spans ≡ onto_tests l.tests.items (all_tests l.field (drop l.span-index l.spans)) }
