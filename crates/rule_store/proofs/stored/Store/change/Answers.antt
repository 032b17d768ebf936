use Rattle.std.proofs.Common.{◌≡◌, ap, length, vec_capacity, vec_len, rules, arith}
use Rattle.std.proofs.lemmas.Grind.{common_steps}
use Rattle.std.proofs.lemmas.List.{get_or_read}
use Rattle.std.proofs.lemmas.Option.{get_or_from_slice_get}
use Rattle.counted_blocks.specs.declared.Item.{Item}
use Rattle.counted_blocks.specs.Counted.{items_of}
use Rattle.rule_store.specs.Store.{no_rule}
use Rattle.rule_store.proofs.Slots.{count-under, keyed-read, no_item}
use Rattle.rule_store.proofs.Stores.{rules-changed, sized-changed, stored-at}
use Rattle.rule_store.proofs.stored.Store.change.Goals as goal

pub at-requires : goal.at-requires
at-requires c =
    let i = c.self.inside in
    let items = items_of i.order.blocks in
    let is = rw c.deref.ensures.value at c.place_of-place.ensures in
    let present = rw (← c.self.view_is) at c.requires in
    let at = stored-at i.rules.items (vec_capacity i.rules) i.free.items (vec_capacity i.free) items i.order.room i.spare c.args.priority c.place_of-place.result c.self.invariant.stored is present in
    omega (arith, at.within, count-under i.rules.items items)

pub index_mut-requires : goal.index_mut-requires
index_mut-requires c =
    let i = c.self.inside in
    let n : vec_len i.rules ≡ length i.rules.items = first_of (search rules, grind (arith, common_steps)) in
    let within = keyed-read i.rules.items (items_of i.order.blocks) c.place_of-place.result c.at.result c.self.invariant.stored.keyed c.at.ensures in
    omega arith

pub invariant_of-self : goal.invariant_of-self
invariant_of-self c =
    let i = c.self.inside in
    let items = items_of i.order.blocks in
    let is = rw c.deref.ensures.value at c.place_of-place.ensures in
    let present = rw (← c.self.view_is) at c.requires in
    let at = stored-at i.rules.items (vec_capacity i.rules) i.free.items (vec_capacity i.free) items i.order.room i.spare c.args.priority c.place_of-place.result c.self.invariant.stored is present in
    let within = keyed-read i.rules.items items c.place_of-place.result c.at.result c.self.invariant.stored.keyed c.at.ensures in
    let found = get_or_read i.rules.items c.at.result.key c.index_mut.result.now within c.index_mut.ensures.value no_rule in
    let key = ap (λ (one : Item). one.key) (get_or_from_slice_get items c.place_of-place.result c.at.result no_item c.at.ensures) in
    rw (found, ← key)
    (sized-changed i.rules.items (vec_capacity i.rules) i.free.items (vec_capacity i.free) items i.order.room i.spare c.args.priority c.args.answer c.place_of-place.result c.self.invariant.stored at c.self.invariant.sizes_are)

pub returns-clause-rules : goal.returns-clause-rules
returns-clause-rules c =
    let i = c.self.inside in
    let items = items_of i.order.blocks in
    let is = rw c.deref.ensures.value at c.place_of-place.ensures in
    let present = rw (← c.self.view_is) at c.requires in
    let at = stored-at i.rules.items (vec_capacity i.rules) i.free.items (vec_capacity i.free) items i.order.room i.spare c.args.priority c.place_of-place.result c.self.invariant.stored is present in
    let within = keyed-read i.rules.items items c.place_of-place.result c.at.result c.self.invariant.stored.keyed c.at.ensures in
    let found = get_or_read i.rules.items c.at.result.key c.index_mut.result.now within c.index_mut.ensures.value no_rule in
    let key = ap (λ (one : Item). one.key) (get_or_from_slice_get items c.place_of-place.result c.at.result no_item c.at.ensures) in
    rw (found, ← key, ← c.self.view_is)
    (rules-changed i.rules.items (vec_capacity i.rules) i.free.items (vec_capacity i.free) items i.order.room i.spare c.args.priority c.args.answer c.place_of-place.result c.self.invariant.stored at)
