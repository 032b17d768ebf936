use Rattle.std.proofs.Common.{◌∙◌, ◌+◌, arith}
use Rattle.nft_rulesets.specs.Products.{proto_test}
use Rattle.nft_rulesets.proofs.Loops.{numbers-made}
use Rattle.nft_rulesets.proofs.products.put_protos.Goals as goal

pub loop-proto-preserved : goal.loop-proto-preserved
loop-proto-preserved c = record {
  put = numbers-made proto_test _ _ c.loop-proto.proto (c.args.span.now.hi + 1) c.proto_test.result (omega arith) c.proto_test.ensures c.in_ok-push.ensures.items ∙ c.loop-proto.invariant.put;
}
