use Rattle.std.proofs.Common.{◌≡◌, ◌*◌, ◌%◌, ◌^◌, arith}
use Rattle.rule_model.proofs.words.word_of.Goals as goal

pub returns : goal.returns
returns c =
    let src : c.address_lane-4.result ≡ c.args.key.now.src % 2 ^ 32 = omega (arith, c.address_lane-4.ensures) in
    let dst : c.address_lane-8.result ≡ c.args.key.now.dst % 2 ^ 32 = omega (arith, c.address_lane-8.ensures) in
    let proto : c.from-proto.result * 2 ^ 24 % 2 ^ 32 ≡ c.args.key.now.proto * 2 ^ 24 = omega (arith, c.from-proto.ensures) in
    cc
