use Rattle.std.proofs.Common.{◌≡◌, ◌-◌, ◌^◌, ℕ, ap, ◌∙◌, arith}
use Rattle.std.proofs.lemmas.Nat.Bits.{ones_shr}
use Rattle.nft_rulesets.proofs.spans.ones.Goals as goal

pub returns : goal.returns
returns c =
    let same : 128 - (128 - c.args.past) ≡ c.args.past = omega arith in
    ones_shr 128 (128 - c.args.past) (omega arith) ∙ ap (λ (k : ℕ). 2 ^ k - 1) same
