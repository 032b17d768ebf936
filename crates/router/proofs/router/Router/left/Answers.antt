-- What is left of both plans.
use Rattle.std.proofs.Common.{◌≤◌, ◌^◌, ap₂, sym, ◌∙◌, arith}
use Rattle.router.proofs.Left.{both_left, few_told, left_is}
use Rattle.router.proofs.router.Router.left.Goals as goal

pub overflow_add-result : goal.overflow_add-result
overflow_add-result c =
    let listed : c.in-Some-Some.listed ≤ 2 ^ 41 = few_told _ c.self.invariant.list_few c.left.result c.in-Some-Some.listed c.in-Some-Some.is-0 c.left.ensures in
    let routed : c.in-Some-Some.routed ≤ 2 ^ 41 = few_told _ c.self.invariant.route_few c.left-2.result c.in-Some-Some.routed c.in-Some-Some.is-1 c.left-2.ensures in
    omega arith

pub returns-in-None-Some : goal.returns-in-None-Some
returns-in-None-Some c = λ list_slots route_slots fits.
    sym (ap₂ both_left c.in-None-Some.is-0 c.in-None-Some.is-1) ∙ left_is _ c.args.self.now c.left.result c.left-2.result c.self.view_is c.left.ensures c.left-2.ensures list_slots route_slots fits

pub returns-in-Some-None : goal.returns-in-Some-None
returns-in-Some-None c = λ list_slots route_slots fits.
    sym (ap₂ both_left c.in-Some-None.is-0 c.in-Some-None.is-1) ∙ left_is _ c.args.self.now c.left.result c.left-2.result c.self.view_is c.left.ensures c.left-2.ensures list_slots route_slots fits

pub returns-in-Some-Some : goal.returns-in-Some-Some
returns-in-Some-Some c = λ list_slots route_slots fits.
    sym (ap₂ both_left c.in-Some-Some.is-0 c.in-Some-Some.is-1) ∙ left_is _ c.args.self.now c.left.result c.left-2.result c.self.view_is c.left.ensures c.left-2.ensures list_slots route_slots fits
