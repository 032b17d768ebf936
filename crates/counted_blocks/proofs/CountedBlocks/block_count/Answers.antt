use Rattle.std.proofs.Common.{arith, length, ◌≡◌, rules}
use Rattle.std.proofs.lemmas.Grind.{common_steps}
use Rattle.counted_blocks.proofs.Changes.{few-blocks}
use Rattle.counted_blocks.proofs.CountedBlocks.block_count.Goals as goal

pub overflow_cast-result : goal.overflow_cast-result
overflow_cast-result c =
    let few = few-blocks _ _ _ _ _ _ _ c.self.invariant in
    let n : c.len.result ≡ length c.self.inside.blocks.items = first_of (search rules, grind (arith, common_steps)) in
    omega arith
