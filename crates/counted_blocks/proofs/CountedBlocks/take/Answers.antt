use Rattle.std.proofs.Common.{◌∙◌, List, [], ap, vec_capacity, arith}
use Rattle.std.specs.List.{remove}
use Rattle.std.proofs.lemmas.List.{get_or_read, length-set}
use Rattle.counted_blocks.specs.declared.Item.{Item}
use Rattle.counted_blocks.proofs.Changes.{few-blocks, mended-counted, mended-items, mended-room, part-size, taken-but, taken-fits, taken-light, taken-some, taken-weights}
use Rattle.counted_blocks.proofs.CountedBlocks.take.Goals as goal

pub overflow_sub-less-2 : goal.overflow_sub-less-2
overflow_sub-less-2 c =
    let i = c.self.inside in
    let within = rw (← c.self.view_is) at c.requires.block in
    let read = get_or_read i.blocks.items c.args.block c.index_mut.result.now within c.index_mut.ensures.value [] in
    let is = c.remove-item.ensures.items ∙ ap (λ (block : List Item). remove block c.args.i) read in
    let found = rw read at c.remove-item.ensures.value in
    taken-fits i.blocks.items (vec_capacity i.blocks) i.weights i.stock.items (vec_capacity i.stock) i.len i.size c.self.invariant c.args.block c.args.i c.remove-item.result within c.at-weight.result c.at-weight.ensures c.remove-item.new.self is found c.wide-size.result c.wide-size.ensures.value

pub overflow_sub-self : goal.overflow_sub-self
overflow_sub-self c =
    let i = c.self.inside in
    let within = rw (← c.self.view_is) at c.requires.block in
    let read = get_or_read i.blocks.items c.args.block c.index_mut.result.now within c.index_mut.ensures.value [] in
    let is = c.remove-item.ensures.items ∙ ap (λ (block : List Item). remove block c.args.i) read in
    let found = rw read at c.remove-item.ensures.value in
    taken-some i.blocks.items (vec_capacity i.blocks) i.weights i.stock.items (vec_capacity i.stock) i.len i.size c.self.invariant c.args.block c.args.i c.remove-item.result within c.at-weight.result c.at-weight.ensures c.remove-item.new.self is found

pub overflow_sub-self-2 : goal.overflow_sub-self-2
overflow_sub-self-2 c =
    let i = c.self.inside in
    let within = rw (← c.self.view_is) at c.requires.block in
    let read = get_or_read i.blocks.items c.args.block c.index_mut.result.now within c.index_mut.ensures.value [] in
    let is = c.remove-item.ensures.items ∙ ap (λ (block : List Item). remove block c.args.i) read in
    let found = rw read at c.remove-item.ensures.value in
    let fits = taken-fits i.blocks.items (vec_capacity i.blocks) i.weights i.stock.items (vec_capacity i.stock) i.len i.size c.self.invariant c.args.block c.args.i c.remove-item.result within c.at-weight.result c.at-weight.ensures c.remove-item.new.self is found c.wide-size.result c.wide-size.ensures.value in
    let part = part-size i.blocks.items (vec_capacity i.blocks) i.weights i.stock.items (vec_capacity i.stock) i.len i.size c.self.invariant c.args.block c.args.i c.remove-item.result within c.at-weight.result c.at-weight.ensures in
    omega arith

pub mend-requires-clause-but : goal.mend-requires-clause-but
mend-requires-clause-but c =
    let i = c.self.inside in
    let within = rw (← c.self.view_is) at c.requires.block in
    let read = get_or_read i.blocks.items c.args.block c.index_mut.result.now within c.index_mut.ensures.value [] in
    let is = c.remove-item.ensures.items ∙ ap (λ (block : List Item). remove block c.args.i) read in
    let found = rw read at c.remove-item.ensures.value in
    taken-but i.blocks.items (vec_capacity i.blocks) i.weights i.stock.items (vec_capacity i.stock) i.len i.size c.self.invariant c.args.block c.args.i c.remove-item.result within c.at-weight.result c.at-weight.ensures c.remove-item.new.self is found

pub mend-requires-clause-few : goal.mend-requires-clause-few
mend-requires-clause-few c =
    let i = c.self.inside in
    let few = few-blocks i.blocks.items (vec_capacity i.blocks) i.weights i.stock.items (vec_capacity i.stock) i.len i.size c.self.invariant in
    omega (arith, length-set i.blocks.items c.args.block c.remove-item.new.self)

pub mend-requires-clause-weighed : goal.mend-requires-clause-weighed
mend-requires-clause-weighed c =
    let i = c.self.inside in
    let within = rw (← c.self.view_is) at c.requires.block in
    let read = get_or_read i.blocks.items c.args.block c.index_mut.result.now within c.index_mut.ensures.value [] in
    let is = c.remove-item.ensures.items ∙ ap (λ (block : List Item). remove block c.args.i) read in
    let found = rw read at c.remove-item.ensures.value in
    taken-weights i.blocks.items (vec_capacity i.blocks) i.weights i.stock.items (vec_capacity i.stock) i.len i.size c.self.invariant c.args.block c.args.i c.remove-item.result within c.at-weight.result c.at-weight.ensures c.remove-item.new.self is found c.set.new.self.weights c.wide-size.result c.wide-size.ensures.value c.set.ensures.weights

pub invariant_of-self : goal.invariant_of-self
invariant_of-self c =
    let i = c.self.inside in
    let within = rw (← c.self.view_is) at c.requires.block in
    let read = get_or_read i.blocks.items c.args.block c.index_mut.result.now within c.index_mut.ensures.value [] in
    let is = c.remove-item.ensures.items ∙ ap (λ (block : List Item). remove block c.args.i) read in
    let found = rw read at c.remove-item.ensures.value in
    let capacity = c.mend.ensures.weight_room ∙ c.set.ensures.capacity in
    mended-counted i.blocks.items (vec_capacity i.blocks) i.weights i.stock.items (vec_capacity i.stock) i.len i.size c.self.invariant c.args.block c.args.i c.remove-item.result within c.at-weight.result c.at-weight.ensures c.remove-item.new.self is found c.mend.new.blocks.items c.mend.ensures.mended c.mend.new.stock.items c.mend.ensures.many
    (vec_capacity c.mend.new.blocks) c.mend.new.weights (vec_capacity c.mend.new.stock) c.wide-size.result c.mend.ensures.block_room c.mend.ensures.stock_room capacity c.mend.ensures.weighed c.mend.ensures.empty c.wide-size.ensures.value

pub returns-clause-items : goal.returns-clause-items
returns-clause-items c =
    let i = c.self.inside in
    let within = rw (← c.self.view_is) at c.requires.block in
    let read = get_or_read i.blocks.items c.args.block c.index_mut.result.now within c.index_mut.ensures.value [] in
    let is = c.remove-item.ensures.items ∙ ap (λ (block : List Item). remove block c.args.i) read in
    let found = rw read at c.remove-item.ensures.value in
    rw (← c.self.view_is) (mended-items i.blocks.items (vec_capacity i.blocks) i.weights i.stock.items (vec_capacity i.stock) i.len i.size c.self.invariant c.args.block c.args.i c.remove-item.result within c.at-weight.result c.at-weight.ensures c.remove-item.new.self is found c.mend.new.blocks.items c.mend.ensures.mended c.mend.new.stock.items c.mend.ensures.many)

pub returns-clause-room : goal.returns-clause-room
returns-clause-room c =
    let i = c.self.inside in
    let within = rw (← c.self.view_is) at c.requires.block in
    let read = get_or_read i.blocks.items c.args.block c.index_mut.result.now within c.index_mut.ensures.value [] in
    let is = c.remove-item.ensures.items ∙ ap (λ (block : List Item). remove block c.args.i) read in
    let found = rw read at c.remove-item.ensures.value in
    rw (← c.self.view_is) (mended-room i.blocks.items (vec_capacity i.blocks) i.weights i.stock.items (vec_capacity i.stock) i.len i.size c.self.invariant c.args.block c.args.i c.remove-item.result within c.at-weight.result c.at-weight.ensures c.remove-item.new.self is found c.mend.new.blocks.items c.mend.ensures.mended c.mend.new.stock.items c.mend.ensures.many)

pub set-requires-clause-light : goal.set-requires-clause-light
set-requires-clause-light c =
    let i = c.self.inside in
    let within = rw (← c.self.view_is) at c.requires.block in
    let read = get_or_read i.blocks.items c.args.block c.index_mut.result.now within c.index_mut.ensures.value [] in
    let is = c.remove-item.ensures.items ∙ ap (λ (block : List Item). remove block c.args.i) read in
    let found = rw read at c.remove-item.ensures.value in
    taken-light i.blocks.items (vec_capacity i.blocks) i.weights i.stock.items (vec_capacity i.stock) i.len i.size c.self.invariant c.args.block c.args.i c.remove-item.result within c.at-weight.result c.at-weight.ensures c.remove-item.new.self is found c.wide-size.result c.wide-size.ensures.value
