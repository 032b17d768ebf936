use Rattle.std.proofs.Common.{◌<◌, ◌-◌, vec_capacity, arith}
use Rattle.counted_blocks.specs.declared.Item.{Item}
use Rattle.counted_blocks.specs.Counted.{items_of}
use Rattle.rule_store.proofs.Stores.{rules-inserted, sized-inserted}
use Rattle.rule_store.proofs.stored.Store.insert.Goals as goal

pub invariant_of-self : goal.invariant_of-self
invariant_of-self c =
    let i = c.self.inside in
    let items = items_of i.order.blocks in
    let is = rw c.deref.ensures.value at c.place_of-place.ensures in
    let absent = rw (← c.self.view_is) at c.requires.absent in
    let some : 0 < i.spare = rw (← c.self.view_is) at c.requires.room in
    let item : Item = record { key = c.put-key.result; size = c.entries_needed-size.result } in
    rw c.insert.ensures.items
    (sized-inserted i.rules.items c.put-key.new.rules.items (vec_capacity i.rules) i.free.items c.put-key.new.free.items (vec_capacity i.free) items i.order.room i.spare c.place_of-place.result item c.args.rule
    c.self.invariant.stored is absent c.put-key.ensures.puts (vec_capacity c.put-key.new.rules) (vec_capacity c.put-key.new.free) c.insert.new.self.room (i.spare - 1)
    c.put-key.ensures.capacity c.put-key.ensures.free_capacity c.insert.ensures.room (omega arith) c.self.invariant.sizes_are c.entries_needed-size.ensures.count)

pub returns-clause-rules : goal.returns-clause-rules
returns-clause-rules c =
    let i = c.self.inside in
    let items = items_of i.order.blocks in
    let is = rw c.deref.ensures.value at c.place_of-place.ensures in
    let absent = rw (← c.self.view_is) at c.requires.absent in
    let item : Item = record { key = c.put-key.result; size = c.entries_needed-size.result } in
    rw (c.insert.ensures.items, ← c.self.view_is)
    (rules-inserted i.rules.items c.put-key.new.rules.items (vec_capacity i.rules) i.free.items c.put-key.new.free.items (vec_capacity i.free) items i.order.room i.spare c.place_of-place.result item c.args.rule
    c.self.invariant.stored is absent c.put-key.ensures.puts)
