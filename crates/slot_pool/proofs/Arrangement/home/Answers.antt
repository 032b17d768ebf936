use Rattle.std.proofs.Common.{rules, ◌≡◌, ◌<◌, length, None, sym, subst, arith, ◌∙◌}
use Rattle.std.proofs.lemmas.List.{get_or_default}
use Rattle.slot_order.specs.Order.{slot as held_in}
use Rattle.slot_pool.specs.Homes.{IsFirstOf}
use Rattle.slot_pool.proofs.LeastSlots.{home_first}
use Rattle.slot_pool.proofs.Arrangement.home.Goals as goal

pub returns-then-id-len : goal.returns-then-id-len
returns-then-id-len c =
    let size : length c.self.inside.homes.items ≡ length c.self.inside.slots.items = c.self.invariant.2.size in
    let known : c.args.id < length c.self.inside.homes.items = search (rules, c.if-id-len.true, c.len.ensures) in
    let at : held_in c.self.inside.homes.items c.args.id ≡ c.index.result.now =
    get_or_default c.self.inside.homes.items c.args.id None c.index.result.now known ∙ sym c.index.ensures in
    rw (← c.self.view_is) (sym (home_first c.self.inside.slots.items c.args.id c.index.result.now (subst (IsFirstOf c.self.inside.slots.items 0 c.args.id) at (c.self.invariant.2.first c.args.id (omega arith)))))

pub returns-else-id-len : goal.returns-else-id-len
returns-else-id-len c =
    rw (← c.self.view_is) (sym (home_first c.self.inside.slots.items c.args.id c.first_of.result (search (rules, c.first_of.ensures, c.deref.ensures.value))))
