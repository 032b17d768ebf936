use Rattle.std.proofs.Common.{◌≡◌, Bool, Option, Some, sym, subst, ◌∙◌}
use Rattle.batch_order.specs.declared.held.Held.{Held}
use Rattle.batch_order.specs.Kept.{IsManaged}
use Rattle.batch_order.specs.Managed.{Managed}
use Rattle.batch_order.specs.Steps.{awaits_drain}
use Rattle.batch_order.proofs.under_way.Carried.{view_of}
use Rattle.batch_order.proofs.under_way.Left.{drains_is}
use Rattle.batch_order.proofs.manager.Manager.drains_next.Goals as goal

pub returns-in-Some : goal.returns-in-Some
returns-in-Some c =
    let i = c.self.inside in
    let held = c.in-Some.held in
    let is : i.held ≡ Some held = c.in-Some.is in
    let managed : IsManaged i.translation i.rules i.live i.arrangement (Some held) = subst (IsManaged i.translation i.rules i.live i.arrangement) is c.self.invariant.0 in
    let view : view_of i.placement i.translation i.rules i.live i.arrangement i.held ≡ c.args.self.now = c.self.view_is in
    let result : Bool = c.drains_next.result in
    let next : result ≡ awaits_drain (view_of i.placement i.translation i.rules i.live i.arrangement (Some held)).held =
    c.drains_next.ensures ∙ sym (drains_is i.translation i.rules i.live i.arrangement held managed) in
    subst (λ (m : Managed). result ≡ awaits_drain m.held) view
    (subst (λ (h : Option Held). result ≡ awaits_drain (view_of i.placement i.translation i.rules i.live i.arrangement h).held) (sym is) next)
