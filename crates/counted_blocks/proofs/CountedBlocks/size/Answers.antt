use Rattle.counted_blocks.proofs.Changes.{size-fits}
use Rattle.counted_blocks.proofs.CountedBlocks.size.Goals as goal

pub returns-clause-most : goal.returns-clause-most
returns-clause-most c = rw (← c.self.view_is) (size-fits _ _ _ _ _ _ _ c.self.invariant)
