use Rattle.std.proofs.Common.{◌≡◌, ◌∙◌, subst}
use Rattle.batch_order.specs.Managed.{Managed}
use Rattle.batch_order.proofs.planning.Refused.{stands_size}
use Rattle.batch_order.proofs.manager.Manager.setting.Goals as goal

pub returns-clause-slots : goal.returns-clause-slots
returns-clause-slots c =
    let i = c.self.inside in
    subst (λ (m : Managed). c.slots-slots.result ≡ m.slots) c.self.view_is
    (c.slots-slots.ensures.number ∙ stands_size i.translation i.rules i.live i.arrangement i.planned i.held c.self.invariant.0 c.self.invariant.1)
