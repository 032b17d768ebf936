use Rattle.std.proofs.Common.{arith}
use Rattle.counted_blocks.proofs.Changes.{read-at}
use Rattle.counted_blocks.proofs.CountedBlocks.remove.Goals as goal

pub returns-clause-value : goal.returns-clause-value
returns-clause-value c =
    let spot = c.find-spot.ensures.spot in
    let from = spot.from in
    let start = spot.start_is in
    read-at c.args.self.now.blocks c.find-spot.result.block _ c.args.place c.take.result spot.within (omega arith) c.take.ensures.value
