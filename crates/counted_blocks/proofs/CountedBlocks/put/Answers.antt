use Rattle.std.proofs.Common.{◌∙◌, List, [], ap, refl, vec_capacity, arith}
use Rattle.std.specs.List.{insert}
use Rattle.std.proofs.lemmas.List.{get_or_read}
use Rattle.counted_blocks.specs.declared.Item.{Item}
use Rattle.counted_blocks.proofs.Changes.{part-size, put-counted, put-items, put-light, put-room, size-most-all}
use Rattle.counted_blocks.proofs.CountedBlocks.put.Goals as goal

pub overflow_add-more-2 : goal.overflow_add-more-2
overflow_add-more-2 c =
    let i = c.self.inside in
    let within = rw (← c.self.view_is) at c.requires.block in
    let part = part-size i.blocks.items (vec_capacity i.blocks) i.weights i.stock.items (vec_capacity i.stock) i.len i.size c.self.invariant c.args.block c.args.i c.args.item within c.at-weight.result c.at-weight.ensures in
    let most = size-most-all i.blocks.items (vec_capacity i.blocks) i.weights i.stock.items (vec_capacity i.stock) i.len i.size c.self.invariant c.args.block c.args.i c.args.item within c.at-weight.result c.at-weight.ensures in
    let few = c.self.invariant.few in
    let added = c.wide-size.ensures.most in
    omega arith

pub overflow_add-self-2 : goal.overflow_add-self-2
overflow_add-self-2 c =
    let i = c.self.inside in
    let within = rw (← c.self.view_is) at c.requires.block in
    let most = size-most-all i.blocks.items (vec_capacity i.blocks) i.weights i.stock.items (vec_capacity i.stock) i.len i.size c.self.invariant c.args.block c.args.i c.args.item within c.at-weight.result c.at-weight.ensures in
    let few = c.self.invariant.few in
    let added = c.wide-size.ensures.most in
    omega arith

pub invariant_of-self : goal.invariant_of-self
invariant_of-self c =
    let i = c.self.inside in
    let within = rw (← c.self.view_is) at c.requires.block in
    let place = rw (← c.self.view_is) at c.requires.place in
    let loose = rw (← c.self.view_is) at c.requires.loose in
    let room = rw (← c.self.view_is) at c.requires.room in
    let few = rw (← c.self.view_is) at c.requires.few in
    let read = get_or_read i.blocks.items c.args.block c.index_mut.result.now within c.index_mut.ensures.value [] in
    let is = c.insert.ensures ∙ ap (λ (block : List Item). insert block c.args.i c.args.item) read in
    put-counted i.blocks.items (vec_capacity i.blocks) i.weights i.stock.items (vec_capacity i.stock) i.len i.size c.self.invariant c.args.block c.args.i c.args.item within c.at-weight.result c.at-weight.ensures
    c.insert.new.self is place _ c.set.new.self _ c.wide-size.result refl refl c.set.ensures.capacity c.wide-size.ensures.value c.wide-size.ensures.most c.set.ensures.weights loose few room

pub returns-clause-items : goal.returns-clause-items
returns-clause-items c =
    let i = c.self.inside in
    let within = rw (← c.self.view_is) at c.requires.block in
    let place = rw (← c.self.view_is) at c.requires.place in
    let read = get_or_read i.blocks.items c.args.block c.index_mut.result.now within c.index_mut.ensures.value [] in
    let is = c.insert.ensures ∙ ap (λ (block : List Item). insert block c.args.i c.args.item) read in
    rw (← c.self.view_is)
    (put-items i.blocks.items (vec_capacity i.blocks) i.weights i.stock.items (vec_capacity i.stock) i.len i.size c.self.invariant c.args.block c.args.i c.args.item within c.at-weight.result c.at-weight.ensures c.insert.new.self is place)

pub returns-clause-room : goal.returns-clause-room
returns-clause-room c =
    let i = c.self.inside in
    let within = rw (← c.self.view_is) at c.requires.block in
    let place = rw (← c.self.view_is) at c.requires.place in
    let room = rw (← c.self.view_is) at c.requires.room in
    let read = get_or_read i.blocks.items c.args.block c.index_mut.result.now within c.index_mut.ensures.value [] in
    let is = c.insert.ensures ∙ ap (λ (block : List Item). insert block c.args.i c.args.item) read in
    rw (← c.self.view_is)
    (put-room i.blocks.items (vec_capacity i.blocks) i.weights i.stock.items (vec_capacity i.stock) i.len i.size c.self.invariant c.args.block c.args.i c.args.item within c.at-weight.result c.at-weight.ensures c.insert.new.self is place room)

pub set-requires-clause-light : goal.set-requires-clause-light
set-requires-clause-light c =
    let i = c.self.inside in
    let within = rw (← c.self.view_is) at c.requires.block in
    let place = rw (← c.self.view_is) at c.requires.place in
    let loose = rw (← c.self.view_is) at c.requires.loose in
    let read = get_or_read i.blocks.items c.args.block c.index_mut.result.now within c.index_mut.ensures.value [] in
    let is = c.insert.ensures ∙ ap (λ (block : List Item). insert block c.args.i c.args.item) read in
    put-light i.blocks.items (vec_capacity i.blocks) i.weights i.stock.items (vec_capacity i.stock) i.len i.size c.self.invariant c.args.block c.args.i c.args.item within c.at-weight.result c.at-weight.ensures
    c.insert.new.self is place c.wide-size.result c.wide-size.ensures.value c.wide-size.ensures.most loose
