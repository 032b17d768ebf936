use Rattle.std.proofs.Common.{◌≡◌, Option, Some, subst, sym, ◌∙◌}
use Rattle.batch_order.specs.declared.held.Held.{Held}
use Rattle.batch_order.specs.Kept.{undo_left}
use Rattle.batch_order.specs.Managed.{Managed}
use Rattle.batch_order.specs.Steps.{is_turned}
use Rattle.batch_order.proofs.under_way.Carried.{view_of}
use Rattle.batch_order.proofs.under_way.Ways.{turned_way}
use Rattle.batch_order.proofs.manager.Manager.is_turned.Goals as goal

pub returns-in-Some : goal.returns-in-Some
returns-in-Some c =
    let i = c.self.inside in
    let held = c.in-Some.held in
    let is : i.held ≡ Some held = c.in-Some.is in
    let view : view_of i.placement i.translation i.rules i.live i.arrangement i.held ≡ c.args.self.now = c.self.view_is in
    subst (λ (m : Managed). c.is_some.result ≡ is_turned m.held) view
    (subst (λ (h : Option Held). c.is_some.result ≡ is_turned (view_of i.placement i.translation i.rules i.live i.arrangement h).held) (sym is)
    (c.is_some.ensures ∙ sym (turned_way held.turned (undo_left i.translation i.arrangement i.live.entries held))))
