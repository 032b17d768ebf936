use Rattle.std.proofs.Common.{◌≡◌, ◌++◌, ◌+◌, ◌-◌, map}
use Rattle.std.specs.List.{range_with_len}
use Rattle.nft_rulesets.specs.Products.{proto_test, proto_tests}
use Rattle.nft_rulesets.proofs.products.put_protos.Given as goal

abbrev pub invariant-loop-proto : goal.invariant-loop-proto
invariant-loop-proto l = record { put : l.into.items ++ map proto_test (range_with_len l.proto (l.span.hi + 1 - l.proto)) ≡ l.fn.into.items ++ proto_tests l.span }
