use Rattle.std.proofs.Common.{rules, ◌≡◌, ◌<◌, ◌==◌, ◌∙◌, ℕ, true, sym, arith}
use Rattle.std.proofs.lemmas.Grind.{common_steps}
use Rattle.slot_order.specs.Order.{slot as held_in}
use Rattle.slot_pool.specs.Arrangement.{passes}
use Rattle.slot_pool.proofs.SlotSums.{no_other, only_other, passes_is}
use Rattle.slot_pool.proofs.homes.next_home.Goals as goal

pub returns-then-sum-eq0 : goal.returns-then-sum-eq0
returns-then-sum-eq0 c =
    let test = c.if-sum-eq0.true in
    let none : c.args.sum ≡ 0 = first_of (omega arith, grind (arith, common_steps)) in
    no_other c.args.slots.now c.args.slot c.args.id (sym none ∙ c.requires.sum)

pub returns-then-holds : goal.returns-then-holds
returns-then-holds c =
    let test = c.if-sum-slot.true in
    let past : c.args.slot < c.args.sum = first_of (omega arith, grind (arith, common_steps)) in
    let said = c.holds.ensures in
    let yes = c.if-holds.true in
    let tested : passes (λ (x : ℕ). x == c.args.id) (held_in c.args.slots.now c.args.sum) ≡ true = first_of (search rules, grind (arith, common_steps)) in
    let here = passes_is (held_in c.args.slots.now c.args.sum) c.args.id tested in
    only_other c.args.slots.now c.args.slot c.args.id c.args.sum c.requires.sum past here
