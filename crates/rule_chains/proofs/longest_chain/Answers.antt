use Rattle.std.proofs.Common.{◌≡◌, ℕ, length, replicate, ap, arith}
use Rattle.std.proofs.lemmas.List.{length-replicate}
use Rattle.rule_chains.proofs.longest_chain.Goals as goal

pub longest_by-requires : goal.longest_by-requires
longest_by-requires c =
    let zeros : c.in_ok-lengths.lengths.items ≡ replicate c.len.result 0 = c.in_ok-lengths.ensures.items_if_clones_equal (λ y h. h) in
    let made = ap length zeros in
    let size = length-replicate {A = ℕ} c.len.result 0 in
    let lent = ap length c.deref_mut.ensures.value in
    let count = c.len.ensures.count in
    omega arith
