use Rattle.std.proofs.Common.{rules, ◌≡◌, ◌≤◌, Some, length, arith}
use Rattle.std.proofs.lemmas.Grind.{common_steps}
use Rattle.slot_order.specs.Order.{slot as held_in}
use Rattle.slot_pool.proofs.SlotSums.{beyond_taken}
use Rattle.slot_pool.proofs.sums.erase.Goals as goal

pub returns-else-id-sums : goal.returns-else-id-sums
returns-else-id-sums c =
    let test = c.if-id-sums.false in
    let past : length c.args.sums.now ≤ c.in-Some.id = first_of (omega arith, grind (arith, common_steps)) in
    let is = c.in-Some.is in
    let held : held_in c.args.slots.now c.args.slot ≡ Some c.in-Some.id = first_of (search rules, grind (arith, common_steps)) in
    beyond_taken c.args.slots.now c.args.sums.now c.args.slot c.in-Some.id c.requires.sums c.requires.place held past
