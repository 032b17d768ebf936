use Rattle.std.proofs.Common.{◌≡◌, ◌++◌, drop, map}
use Rattle.nft_rulesets.specs.Products.{receiver_test}
use Rattle.nft_rulesets.proofs.products.put_receivers.Given as goal

abbrev pub invariant-loop-block : goal.invariant-loop-block
invariant-loop-block l = record { put : l.into.items ++ map receiver_test (drop l.block-index l.blocks) ≡ l.fn.into.items ++ map receiver_test l.blocks }
