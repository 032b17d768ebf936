-- Both tables hold their plans.
use Rattle.router.proofs.Kept.{planned_router}
use Rattle.router.proofs.router.Router.plan.Goals as goal

pub invariant_of-self-in-Ok-prepare : goal.invariant_of-self-in-Ok-prepare
invariant_of-self-in-Ok-prepare g c = planned_router _ _ _ _ _ c.self.invariant c.in-Ok.ensures.ready c.in-Ok-prepare.ensures.ready
