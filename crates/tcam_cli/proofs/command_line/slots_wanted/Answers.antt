use Rattle.std.proofs.Common.{◌≤◌, refl, sym, subst, arith}
use Rattle.slot_order.specs.Order.{most_slots}
use Rattle.tcam_cli.specs.declared.command_line.Asked.{Asked}
use Rattle.tcam_cli.specs.declared.command_line.Asked.TheVariants as variant
use Rattle.tcam_cli.specs.Asked.{IsInRange, asked_by}
use Rattle.tcam_cli.specs.Headline.{Job, wanted_slots}
use Rattle.tcam_cli.proofs.command_line.slots_wanted.Goals as goal

-- what is asked for uses no more slots than there may be
few-wanted : (job : Asked) → IsInRange job → wanted_slots (asked_by job) ≤ most_slots
few-wanted (variant.Script family slots mode placement trace depth json names parts large) within = within.1
few-wanted (variant.Made slots mode placement seed rules batches) within =
    let script = within.script_slots in
    let few : slots ≤ most_slots = omega (arith, script) in
    few
few-wanted variant.Verify within = let none : 0 ≤ most_slots = omega arith in none
few-wanted (variant.Help topic) within = let none : 0 ≤ most_slots = omega arith in none
few-wanted variant.Version within = let none : 0 ≤ most_slots = omega arith in none

pub returns-in-Ok-clause-wanted : goal.returns-in-Ok-clause-wanted
returns-in-Ok-clause-wanted c =
    let is = c.asked_slots.ensures in
    subst (λ (job : Job). wanted_slots job ≤ c.asked_slots.result) (sym c.in-Ok.ensures.asked) (omega (arith, is))

pub returns-in-Ok-clause-most : goal.returns-in-Ok-clause-most
returns-in-Ok-clause-most c =
    let is = c.asked_slots.ensures in
    let few = few-wanted c.in-Ok.asked c.in-Ok.ensures.within in
    omega (arith, is, few)

pub returns-in-Err-Usage-clause-wanted : goal.returns-in-Err-Usage-clause-wanted
returns-in-Err-Usage-clause-wanted c =
    let none = (rw c.in-Err-Usage.field-0-is at c.in-Err-Usage.ensures.usage) refl in
    subst (λ (job : Job). wanted_slots job ≤ 0) (sym none) (omega arith)
