use Rattle.std.proofs.Common.{◌≡◌, true, Option, Some, sym, subst, ◌∙◌}
use Rattle.batch_order.specs.ByParts.{longest_parts}
use Rattle.batch_order.specs.CarriedOut.{writes_left}
use Rattle.batch_order.specs.Kept.{IsManaged}
use Rattle.batch_order.specs.Managed.{Managed}
use Rattle.batch_order.specs.Steps.{is_unwritten}
use Rattle.batch_order.specs.declared.held.Held.{Held}
use Rattle.batch_order.proofs.under_way.Carried.{view_of}
use Rattle.batch_order.proofs.planning.Numbers.{longest_counted}
use Rattle.batch_order.proofs.under_way.Unwritten.{unwritten_is, unwritten_parts}
use Rattle.batch_order.proofs.manager.Manager.most_parts.Goals as goal

pub returns-in-Some-clause-plan : goal.returns-in-Some-clause-plan
returns-in-Some-clause-plan c unwritten =
    let i = c.self.inside in
    let held = c.in-Some.held in
    let was : i.held ≡ Some held = c.in-Some.is in
    let managed = subst (IsManaged i.translation i.rules i.live i.arrangement) was c.self.invariant.0 in
    let said : is_unwritten (view_of i.placement i.translation i.rules i.live i.arrangement i.held).held ≡ true = rw (← c.self.view_is) at unwritten in
    let here = subst (λ (h : Option Held). is_unwritten (view_of i.placement i.translation i.rules i.live i.arrangement h).held ≡ true) was said in
    let one = unwritten_parts held (sym (unwritten_is i.translation i.rules i.live i.arrangement held managed) ∙ here) in
    let view : view_of i.placement i.translation i.rules i.live i.arrangement i.held ≡ c.args.self.now = c.self.view_is in
    subst (λ (m : Managed). held.most_parts ≡ longest_parts m.state (writes_left m.held)) view
    (subst (λ (h : Option Held). held.most_parts ≡ longest_parts (view_of i.placement i.translation i.rules i.live i.arrangement h).state (writes_left (view_of i.placement i.translation i.rules i.live i.arrangement h).held)) (sym was)
    (longest_counted i.translation i.rules i.live i.arrangement held managed one))
