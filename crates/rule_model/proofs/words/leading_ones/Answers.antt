use Rattle.std.proofs.Common.{◌-◌, arith}
use Rattle.std.proofs.lemmas.Nat.Bits.{ones_shl}
use Rattle.rule_model.proofs.words.leading_ones.Goals as goal

pub returns : goal.returns
returns c = ones_shl 128 (128 - c.args.len) (omega arith)
