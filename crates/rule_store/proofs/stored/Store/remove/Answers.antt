use Rattle.std.proofs.Common.{ap, vec_capacity, arith}
use Rattle.std.proofs.lemmas.Option.{get_or_from_slice_get}
use Rattle.counted_blocks.specs.declared.Item.{Item}
use Rattle.counted_blocks.specs.Counted.{items_of}
use Rattle.rule_store.proofs.Slots.{count-under, no_item}
use Rattle.rule_store.proofs.Stores.{rules-removed, sized-removed, stored-at}
use Rattle.rule_store.proofs.stored.Store.remove.Goals as goal

pub remove-item-requires : goal.remove-item-requires
remove-item-requires c =
    let i = c.self.inside in
    let items = items_of i.order.blocks in
    let is = rw c.deref.ensures.value at c.place_of-place.ensures in
    let present = rw (← c.self.view_is) at c.requires in
    let at = stored-at i.rules.items (vec_capacity i.rules) i.free.items (vec_capacity i.free) items i.order.room i.spare c.args.priority c.place_of-place.result c.self.invariant.stored is present in
    omega (arith, at.within, count-under i.rules.items items)

pub invariant_of-self : goal.invariant_of-self
invariant_of-self c =
    let i = c.self.inside in
    let items = items_of i.order.blocks in
    let is = rw c.deref.ensures.value at c.place_of-place.ensures in
    let present = rw (← c.self.view_is) at c.requires in
    let at = stored-at i.rules.items (vec_capacity i.rules) i.free.items (vec_capacity i.free) items i.order.room i.spare c.args.priority c.place_of-place.result c.self.invariant.stored is present in
    let key = ap (λ (one : Item). one.key) (get_or_from_slice_get items c.place_of-place.result c.remove-item.result no_item c.remove-item.ensures.value) in
    rw (c.push_reserved.ensures.items, c.remove-item.ensures.items, ← key)
    (sized-removed i.rules.items (vec_capacity i.rules) i.free.items (vec_capacity i.free) items i.order.room i.spare c.args.priority c.place_of-place.result c.self.invariant.stored at
    (vec_capacity c.push_reserved.new.self) c.remove-item.new.self.room c.push_reserved.ensures.capacity c.remove-item.ensures.room c.self.invariant.sizes_are)

pub returns-clause-rules : goal.returns-clause-rules
returns-clause-rules c =
    let i = c.self.inside in
    let items = items_of i.order.blocks in
    let is = rw c.deref.ensures.value at c.place_of-place.ensures in
    let present = rw (← c.self.view_is) at c.requires in
    let at = stored-at i.rules.items (vec_capacity i.rules) i.free.items (vec_capacity i.free) items i.order.room i.spare c.args.priority c.place_of-place.result c.self.invariant.stored is present in
    rw (c.remove-item.ensures.items, ← c.self.view_is)
    (rules-removed i.rules.items (vec_capacity i.rules) i.free.items (vec_capacity i.free) items i.order.room i.spare c.args.priority c.place_of-place.result c.self.invariant.stored at)
