use Rattle.std.proofs.Common.{◌+◌, ◌-◌, ℕ, List, [], ◌∙◌, ap, ap₂, take, sym, arith}
use Rattle.std.proofs.lemmas.List.{get_or_read}
use Rattle.std.proofs.lemmas.List.Sums.{sum_by-take-le}
use Rattle.counted_blocks.specs.declared.Item.{Item}
use Rattle.counted_blocks.specs.declared.weights.Weight.{Weight}
use Rattle.counted_blocks.specs.Counted.{items_of, size_of, size_sum}
use Rattle.counted_blocks.proofs.Changes.{size-at}
use Rattle.counted_blocks.proofs.Spots.{size-before, size-most}
use Rattle.counted_blocks.proofs.CountedBlocks.size_before.Goals as goal

pub overflow_add-result : goal.overflow_add-result
overflow_add-result c =
    let blocks = c.self.inside.blocks.items in
    let b : ℕ = c.find-spot.result.block in
    let spot = rw (← c.self.view_is) at c.find-spot.ensures.spot in
    let from = spot.from in
    let to = spot.to in
    let start = spot.start_is in
    let front = ap (λ (weight : Weight). weight.size) c.before-2.ensures ∙ ap (λ (all : List Weight). size_sum (take b all)) c.self.invariant.weights_are ∙ size-before blocks b in
    let read = get_or_read blocks b c.index.result.now spot.within c.index.ensures [] in
    let part = c.size_before.ensures.size ∙ ap (λ (block : List Item). size_of (take (c.args.place - c.find-spot.result.start) block)) read in
    let whole = size-at blocks b (c.args.place - c.find-spot.result.start) c.args.place spot.within (omega arith) (omega arith) in
    let within = sum_by-take-le (λ (item : Item). item.size) (items_of blocks) c.args.place in
    let most = size-most (items_of blocks) c.self.invariant.small in
    let few = c.self.invariant.few in
    omega arith

pub returns : goal.returns
returns c =
    let blocks = c.self.inside.blocks.items in
    let b : ℕ = c.find-spot.result.block in
    let spot = rw (← c.self.view_is) at c.find-spot.ensures.spot in
    let from = spot.from in
    let to = spot.to in
    let start = spot.start_is in
    let front = ap (λ (weight : Weight). weight.size) c.before-2.ensures ∙ ap (λ (all : List Weight). size_sum (take b all)) c.self.invariant.weights_are ∙ size-before blocks b in
    let read = get_or_read blocks b c.index.result.now spot.within c.index.ensures [] in
    let part = c.size_before.ensures.size ∙ ap (λ (block : List Item). size_of (take (c.args.place - c.find-spot.result.start) block)) read in
    record {
      size = rw (← c.self.view_is) (ap₂ (λ (n m : ℕ). n + m) front part ∙ sym (size-at blocks b (c.args.place - c.find-spot.result.start) c.args.place spot.within (omega arith) (omega arith)));
    }
