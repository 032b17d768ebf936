use Rattle.std.proofs.Common.{◌≡◌, ◌≤◌, None, length, arith, sym, ◌∙◌, subst, ap}
use Rattle.std.specs.Prelude.{slice_set}
use Rattle.std.proofs.lemmas.List.{with_items_is, length-set}
use Rattle.slot_order.specs.Order.{most_slots}
use Rattle.slot_pool.specs.Homes.{AreHomes, AreSums}
use Rattle.slot_pool.proofs.FreeSlots.{free_marks, one_marked, of_equals}
use Rattle.slot_pool.proofs.Arrangement.erase.Goals as goal

pub invariant_of-self : goal.invariant_of-self
invariant_of-self c =
    let slots = c.self.inside.slots.items in
    let some = c.self.invariant.0 in
    let most = c.self.invariant.1 in
    let size = c.self.invariant.2.size in
    let sized = c.self.invariant.4.size in
    let row : c.erase.new.slots ≡ slice_set slots c.args.slot None = c.erase.ensures.slots ∙ ap (λ old. slice_set old c.args.slot None) c.deref_mut.ensures.value in
    let long : length c.erase.new.slots ≡ length slots = ap length row ∙ length-set slots c.args.slot None in
    let all = with_items_is c.self.inside.slots c.erase.new.slots (omega (arith, c.self.inside.slots.ok.0)) in
    let homes = with_items_is c.self.inside.homes c.erase.new.homes (let same = c.erase.ensures.homes.size in omega (arith, c.self.inside.homes.ok.0)) in
    let sums = with_items_is c.self.inside.sums c.erase.new.sums (let same = c.erase.ensures.sums.size in omega (arith, c.self.inside.sums.ok.0)) in (
      subst (λ items. 1 ≤ length items) (sym all) (omega arith),
      subst (λ items. length items ≤ most_slots) (sym all) (omega arith),
      of_equals (λ items firsts. AreHomes items firsts) all homes c.erase.ensures.homes,
      one_marked slots c.args.slot None c.self.invariant.3 row c.insert.ensures ∙ sym (ap free_marks all),
      of_equals (λ items all. AreSums items all) all sums c.erase.ensures.sums,
    )
