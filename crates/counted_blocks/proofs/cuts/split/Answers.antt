use Rattle.std.proofs.Common.{◌≡◌, ◌+◌, ◌∙◌, ℕ, List, [], length, set, ap, ap₂, arith}
use Rattle.std.specs.List.{insert}
use Rattle.std.proofs.lemmas.List.{get_or_read, get_or-set_same, length-map, length-set}
use Rattle.std.proofs.lemmas.List.Elements.{All-take}
use Rattle.counted_blocks.specs.declared.weights.Weight.{Weight}
use Rattle.counted_blocks.specs.Counted.{weight_of}
use Rattle.counted_blocks.proofs.Evens.{weights-split}
use Rattle.counted_blocks.proofs.cuts.split.Goals as goal

pub returns-clause-weighed : goal.returns-clause-weighed
returns-clause-weighed c =
    let blocks = c.args.blocks.now.items in
    let b : ℕ = c.args.block in
    let count = length-set blocks b c.split.new.self in
    let read = get_or_read _ b c.index.result.now (omega (arith, c.requires.within)) c.index.ensures [] ∙ get_or-set_same blocks b c.split.new.self [] c.requires.within in
    rw (rw c.unwrap.ensures at c.insert-2.ensures.items)
    (weights-split blocks c.args.weights.now.weights c.insert.new.self.weights b c.split.new.self c.split.new.upper c.requires.weighed
    (c.insert.ensures.weights
    ∙ ap₂ (λ (all : List Weight) (one : Weight). insert all (b + 1) one) (c.set.ensures.weights ∙ ap (λ (one : Weight). set c.args.weights.now.weights b one) (c.weigh-weight.ensures.weight ∙ ap weight_of read)) c.weigh.ensures.weight))

pub returns-clause-empty : goal.returns-clause-empty
returns-clause-empty c = rw c.pop.ensures.rest (All-take (λ block. block ≡ []) _ c.args.stock.now.items c.requires.empty)

pub insert-requires-clause-few : goal.insert-requires-clause-few
insert-requires-clause-few c =
    let same = ap (length {A = Weight}) c.set.ensures.weights ∙ length-set c.args.weights.now.weights c.args.block c.weigh-weight.result in
    let count = ap (length {A = Weight}) c.requires.weighed ∙ length-map c.args.blocks.now.items weight_of in
    omega (arith, c.requires.few)
