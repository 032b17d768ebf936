use Rattle.std.proofs.Common.{◌≡◌, Option, Some, subst, sym, ◌∙◌}
use Rattle.batch_order.specs.declared.held.Held.{Held}
use Rattle.batch_order.specs.Kept.{IsManaged}
use Rattle.batch_order.specs.Managed.{Managed}
use Rattle.batch_order.specs.Steps.{is_unwritten}
use Rattle.batch_order.proofs.under_way.Carried.{view_of}
use Rattle.batch_order.proofs.under_way.Unwritten.{unwritten_is}
use Rattle.batch_order.proofs.manager.Manager.is_unwritten.Goals as goal

pub returns-in-Some : goal.returns-in-Some
returns-in-Some c =
    let i = c.self.inside in
    let held = c.in-Some.held in
    let is : i.held ≡ Some held = c.in-Some.is in
    let managed = subst (IsManaged i.translation i.rules i.live i.arrangement) is c.self.invariant.0 in
    let view : view_of i.placement i.translation i.rules i.live i.arrangement i.held ≡ c.args.self.now = c.self.view_is in
    subst (λ (m : Managed). c.is_unwritten.result ≡ is_unwritten m.held) view
    (subst (λ (h : Option Held). c.is_unwritten.result ≡ is_unwritten (view_of i.placement i.translation i.rules i.live i.arrangement h).held) (sym is)
    (c.is_unwritten.ensures ∙ sym (unwritten_is i.translation i.rules i.live i.arrangement held managed)))
