use Rattle.std.proofs.Common.{◌≡◌, ◌<◌, ◌-◌, ℕ, List, [], Some, length, get_or, take, sym, ap, ◌∙◌, vec_capacity, vec_len, rules, arith}
use Rattle.std.specs.List.{insert}
use Rattle.std.proofs.lemmas.Grind.{common_steps}
use Rattle.std.proofs.lemmas.List.{length-map}
use Rattle.counted_blocks.specs.declared.Item.{Item}
use Rattle.counted_blocks.specs.declared.weights.Weight.{Weight}
use Rattle.counted_blocks.specs.Counted.{weight_of}
use Rattle.counted_blocks.proofs.Changes.{counted-begun, few-blocks, room-begun, stock-last}
use Rattle.counted_blocks.proofs.CountedBlocks.begin.Goals as goal

pub invariant_of-self : goal.invariant_of-self
invariant_of-self c =
    let i = c.self.inside in
    let none : i.blocks.items ≡ [] = first_of (search rules, grind (arith, common_steps)) in
    let room = rw (← c.self.view_is) at c.requires in
    let count = ap (length {A = List Item}) none in
    let some : 0 < length i.stock.items = omega arith in
    let n : vec_len i.stock ≡ length i.stock.items = first_of (search rules, grind (arith, common_steps)) in
    let last = sym c.unwrap-block.ensures ∙ c.pop.ensures.value c.unwrap-block.result (omega arith) ∙ ap (λ (m : ℕ). Some (get_or i.stock.items (m - 1) c.unwrap-block.result)) n in
    let empty = stock-last i.stock.items c.unwrap-block.result c.self.invariant.empty some last in
    let rest = c.pop.ensures.rest ∙ ap (λ (m : ℕ). take (m - 1) i.stock.items) n in
    counted-begun i.blocks.items (vec_capacity i.blocks) i.weights i.stock.items (vec_capacity i.stock) i.len i.size c.self.invariant none some c.unwrap-block.result empty
    c.push_reserved.new.self.items c.push_reserved.ensures.items c.pop.new.self.items rest
    (vec_capacity c.push_reserved.new.self) c.insert.new.self (vec_capacity c.pop.new.self) c.push_reserved.ensures.capacity c.pop.ensures.capacity c.insert.ensures.capacity
    (c.insert.ensures.weights ∙ ap (λ (weight : Weight). insert i.weights.weights 0 weight) c.weigh.ensures.weight)

pub returns-then-is_empty-clause-room : goal.returns-then-is_empty-clause-room
returns-then-is_empty-clause-room c =
    let i = c.self.inside in
    let none : i.blocks.items ≡ [] = first_of (search rules, grind (arith, common_steps)) in
    let room = rw (← c.self.view_is) at c.requires in
    let count = ap (length {A = List Item}) none in
    let some : 0 < length i.stock.items = omega arith in
    let n : vec_len i.stock ≡ length i.stock.items = first_of (search rules, grind (arith, common_steps)) in
    let last = sym c.unwrap-block.ensures ∙ c.pop.ensures.value c.unwrap-block.result (omega arith) ∙ ap (λ (m : ℕ). Some (get_or i.stock.items (m - 1) c.unwrap-block.result)) n in
    let empty = stock-last i.stock.items c.unwrap-block.result c.self.invariant.empty some last in
    let rest = c.pop.ensures.rest ∙ ap (λ (m : ℕ). take (m - 1) i.stock.items) n in
    rw (← c.self.view_is)
    (room-begun i.blocks.items (vec_capacity i.blocks) i.weights i.stock.items (vec_capacity i.stock) i.len i.size c.self.invariant none some c.unwrap-block.result empty
    c.push_reserved.new.self.items c.push_reserved.ensures.items c.pop.new.self.items rest)

pub insert-requires-clause-few : goal.insert-requires-clause-few
insert-requires-clause-few c =
    let i = c.self.inside in
    let few = few-blocks i.blocks.items (vec_capacity i.blocks) i.weights i.stock.items (vec_capacity i.stock) i.len i.size c.self.invariant in
    let count = ap (length {A = Weight}) c.self.invariant.weights_are ∙ length-map i.blocks.items weight_of in
    omega arith
