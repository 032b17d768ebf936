use Rattle.std.proofs.Common.{◌≤◌, refl, sym, subst, arith}
use Rattle.slot_order.specs.Order.{most_slots}
use Rattle.router_cli.specs.declared.command_line.RouterAsked.{RouterAsked}
use Rattle.router_cli.specs.declared.command_line.RouterAsked.TheVariants as variant
use Rattle.router_cli.specs.Asked.{IsRouterAskedInRange, router_asked_by}
use Rattle.router_cli.specs.CommandLine.{RouterJob, wanted_router_slots}
use Rattle.router_cli.proofs.command_line.router_slots_wanted.Goals as goal

-- what is asked for uses no more slots than there may be
few-wanted : (job : RouterAsked) → IsRouterAskedInRange job → wanted_router_slots (router_asked_by job) ≤ most_slots
few-wanted (variant.Script version slots mode placement trace large) within = within.1
few-wanted variant.Help within = let none : 0 ≤ most_slots = omega arith in none

pub returns-in-Ok-clause-wanted : goal.returns-in-Ok-clause-wanted
returns-in-Ok-clause-wanted c =
    let is = c.asked_slots.ensures in
    subst (λ (job : RouterJob). wanted_router_slots job ≤ c.asked_slots.result) (sym c.in-Ok.ensures.asked) (omega (arith, is))

pub returns-in-Ok-clause-most : goal.returns-in-Ok-clause-most
returns-in-Ok-clause-most c =
    let is = c.asked_slots.ensures in
    let few = few-wanted c.in-Ok.asked c.in-Ok.ensures.within in
    omega (arith, is, few)

pub returns-in-Err-Usage-clause-wanted : goal.returns-in-Err-Usage-clause-wanted
returns-in-Err-Usage-clause-wanted c =
    let none = (rw c.in-Err-Usage.field-0-is at c.in-Err-Usage.ensures.usage) refl in
    subst (λ (job : RouterJob). wanted_router_slots job ≤ 0) (sym none) (omega arith)
