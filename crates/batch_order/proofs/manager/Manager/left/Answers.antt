use Rattle.std.proofs.Common.{◌≡◌, ℕ, Option, Some, length, sym, ap, subst, ◌∙◌}
use Rattle.std.specs.Prelude.{option_map}
use Rattle.tcam_device.specs.Flight.{writes_in}
use Rattle.batch_order.specs.declared.held.Held.{Held}
use Rattle.batch_order.specs.Kept.{IsManaged}
use Rattle.batch_order.specs.Managed.{HeldCommit, Managed}
use Rattle.batch_order.proofs.back.Aborted.{left_is}
use Rattle.batch_order.proofs.under_way.Carried.{view_of}
use Rattle.batch_order.proofs.manager.Manager.left.Goals as goal

pub left-requires : goal.left-requires
left-requires c =
    let i = c.self.inside in
    let managed : IsManaged i.translation i.rules i.live i.arrangement (Some c.in-Some.held) = subst (IsManaged i.translation i.rules i.live i.arrangement) c.in-Some.is c.self.invariant.0 in
    managed.carried.made

pub returns-in-Some : goal.returns-in-Some
returns-in-Some c =
    let i = c.self.inside in
    let held = c.in-Some.held in
    let is : i.held ≡ Some held = c.in-Some.is in
    let managed : IsManaged i.translation i.rules i.live i.arrangement (Some held) = subst (IsManaged i.translation i.rules i.live i.arrangement) is c.self.invariant.0 in
    let view : view_of i.placement i.translation i.rules i.live i.arrangement i.held ≡ c.args.self.now = c.self.view_is in
    let count : Some c.left.result ≡ option_map (λ (one : HeldCommit). length (writes_in one.actions)) (view_of i.placement i.translation i.rules i.live i.arrangement (Some held)).held =
    ap (λ (n : ℕ). Some n) (c.left.ensures ∙ left_is i.translation i.rules i.live i.arrangement held managed i.placement) in
    subst (λ (m : Managed). Some c.left.result ≡ option_map (λ (one : HeldCommit). length (writes_in one.actions)) m.held) view
    (subst (λ (h : Option Held). Some c.left.result ≡ option_map (λ (one : HeldCommit). length (writes_in one.actions)) (view_of i.placement i.translation i.rules i.live i.arrangement h).held) (sym is) count)
