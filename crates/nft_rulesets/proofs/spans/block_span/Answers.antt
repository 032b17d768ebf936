use Rattle.std.proofs.Common.{◌≡◌, ◌-◌, ◌%◌, ◌^◌, refl, arith, inl, inr}
use Rattle.std.proofs.lemmas.Bool.{cases_eq}
use Rattle.rule_model.proofs.Multiples.{block_fits}
use Rattle.nft_rulesets.proofs.spans.block_span.Goals as goal

pub overflow_add-result : goal.overflow_add-result
overflow_add-result c =
    let whole : c.args.addr % 2 ^ (128 - c.args.len) ≡ 0 =
    elim (cases_eq (c.args.addr % 2 ^ (128 - c.args.len)) 0) [
      | inl e ↦ e
      | inr other ↦ absurd (let bad = c.v6.ensures.host_bits.1 (c.requires, other) in cc)
    ] in
    let fits = block_fits (128 - c.args.len) 128 0 c.args.addr (omega arith) refl whole (omega arith) in
    omega arith
