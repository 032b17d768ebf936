use Rattle.std.proofs.Common.{◌∙◌, ap, sym, List, arith}
use Rattle.counted_blocks.specs.declared.weights.Weight.{Weight}
use Rattle.counted_blocks.specs.Finding.{group_at, weight_sum}
use Rattle.counted_blocks.proofs.Groups.{group-insert}
use Rattle.counted_blocks.proofs.weights.Weights.insert.Goals as goal

pub regroup-requires-clause-known : goal.regroup-requires-clause-known
regroup-requires-clause-known c =
    let weights = c.self.inside.weights.items in
    let within = rw (← c.self.view_is) at c.requires.place in
    let items = rw c.unwrap.ensures at c.insert.ensures.items in
    let least = c.self.invariant.grouped.least in
    λ g to.
    c.self.invariant.grouped.sums g (omega arith)
    ∙ ap weight_sum (sym (ap (λ (all : List Weight). group_at all g) (c.deref.ensures.value ∙ items) ∙ group-insert weights c.args.block c.args.weight g within (omega arith)))
