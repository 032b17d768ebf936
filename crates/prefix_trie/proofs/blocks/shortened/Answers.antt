use Rattle.std.proofs.Common.{◌/◌, ◌-◌, ◌^◌, ℕ, ◌∙◌, ap}
use Rattle.std.proofs.lemmas.Nat.{shl-shr}
use Rattle.std.proofs.Math.Nat.{mul-mod_left}
use Rattle.rule_model.specs.AddressBlock.{AddressBlock}
use Rattle.prefix_trie.proofs.Cells.{no_fault}
use Rattle.prefix_trie.proofs.blocks.shortened.Goals as goal
use Rattle.prefix_trie.proofs.blocks.shortened.Goals.{in-Ok, in-Err}

pub returns-clause-len : goal.returns-clause-len
returns-clause-len c = elim c.match-v6.branch [
  | in-Ok w ↦
      let block = rw w.in-Ok.is at c.v6.ensures.block in
      ap (λ (b : AddressBlock). b.len) (w.made-is ∙ block)
  | in-Err w ↦ absurd (no_fault c.v6.result c.cut-addr.result c.args.len w.in-Err.field-0 c.requires.fits (rw c.cut-addr.ensures (mul-mod_left (c.addr.result / 2 ^ (128 - c.args.len)) (2 ^ (128 - c.args.len)))) c.v6.ensures.length c.v6.ensures.host_bits w.in-Err.is)
]

pub returns-clause-same : goal.returns-clause-same
returns-clause-same c = elim c.match-v6.branch [
  | in-Ok w ↦
      let block = rw w.in-Ok.is at c.v6.ensures.block in
      ap (λ (b : AddressBlock). b.addr / 2 ^ (128 - c.args.len)) (w.made-is ∙ block)
      ∙ (ap (λ (n : ℕ). n / 2 ^ (128 - c.args.len)) c.cut-addr.ensures
      ∙ (shl-shr (c.addr.result / 2 ^ (128 - c.args.len)) (128 - c.args.len)
      ∙ ap (λ (n : ℕ). n / 2 ^ (128 - c.args.len)) c.addr.ensures.value))
  | in-Err w ↦ absurd (no_fault c.v6.result c.cut-addr.result c.args.len w.in-Err.field-0 c.requires.fits (rw c.cut-addr.ensures (mul-mod_left (c.addr.result / 2 ^ (128 - c.args.len)) (2 ^ (128 - c.args.len)))) c.v6.ensures.length c.v6.ensures.host_bits w.in-Err.is)
]
