use Rattle.std.proofs.Common.{List, ◌∙◌, ap, take, arith}
use Rattle.counted_blocks.specs.declared.weights.Weight.{Weight}
use Rattle.counted_blocks.specs.Counted.{count_sum}
use Rattle.counted_blocks.proofs.Flat.{start-all}
use Rattle.counted_blocks.proofs.Spots.{count-before}
use Rattle.counted_blocks.proofs.CountedBlocks.start.Goals as goal

pub overflow_cast-result : goal.overflow_cast-result
overflow_cast-result c =
    let is = ap (λ (weight : Weight). weight.count) c.before-2.ensures ∙ ap (λ (all : List Weight). count_sum (take c.args.block all)) c.self.invariant.weights_are ∙ count-before c.self.inside.blocks.items c.args.block in
    let few = c.self.invariant.few in
    omega (arith, start-all c.self.inside.blocks.items c.args.block)

pub returns-clause-start : goal.returns-clause-start
returns-clause-start c =
    rw (← c.self.view_is)
    (ap (λ (weight : Weight). weight.count) c.before-2.ensures ∙ ap (λ (all : List Weight). count_sum (take c.args.block all)) c.self.invariant.weights_are ∙ count-before c.self.inside.blocks.items c.args.block)

pub returns-clause-most : goal.returns-clause-most
returns-clause-most c =
    let is = ap (λ (weight : Weight). weight.count) c.before-2.ensures ∙ ap (λ (all : List Weight). count_sum (take c.args.block all)) c.self.invariant.weights_are ∙ count-before c.self.inside.blocks.items c.args.block in
    rw (← c.self.view_is) (omega (arith, is, start-all c.self.inside.blocks.items c.args.block))
