use Rattle.std.proofs.Common.{◌≡◌, ◌-◌, ◌*◌, ◌/◌, ◌%◌, ◌^◌, subst, arith}
use Rattle.std.proofs.Math.Nat.{mul-mod_left}
use Rattle.std.proofs.lemmas.Nat.{one_shl}
use Rattle.rule_gen.proofs.Lines.{no_fault}
use Rattle.rule_gen.proofs.draws.network.Goals as goal

pub unwrap-requires : goal.unwrap-requires
unwrap-requires c =
    let size = (1 * 2 ^ (32 - c.args.len)) % 2 ^ 32 in
    let power : size ≡ 2 ^ (32 - c.args.len) = one_shl (32 - c.args.len) 32 (omega arith) in
    let clear = subst (λ s. c.args.address / size * size % s ≡ 0) power (mul-mod_left (c.args.address / size) size) in
    no_fault _ (λ fault. let long = c.v4.ensures.length.0 fault in omega arith) (λ fault. (c.v4.ensures.host_bits.0 fault).1 clear)
