use Rattle.std.proofs.Common.{◌∙◌, ap, arith}
use Rattle.counted_blocks.specs.Counted.{count_sum}
use Rattle.counted_blocks.proofs.Flat.{count-weights}
use Rattle.counted_blocks.proofs.Spots.{place-found, spot-found}
use Rattle.counted_blocks.proofs.CountedBlocks.find.Goals as goal

pub find-requires-clause-place : goal.find-requires-clause-place
find-requires-clause-place c =
    let place = rw (← c.self.view_is) at c.requires.place in
    let count = ap count_sum c.self.invariant.weights_are ∙ count-weights c.self.inside.blocks.items in
    omega arith

pub returns-clause-spot : goal.returns-clause-spot
returns-clause-spot c =
    rw (← c.self.view_is) (spot-found c.self.inside.blocks.items c.self.inside.weights.weights c.args.place c.find.result.block c.find.result.start c.self.invariant.weights_are c.find.ensures)

pub returns-clause-inside : goal.returns-clause-inside
returns-clause-inside c =
    rw (← c.self.view_is) (place-found c.self.inside.blocks.items c.self.inside.weights.weights c.args.place c.find.result.block c.find.result.start c.self.invariant.weights_are c.find.ensures)
