-- Whether the sink failed makes no difference to what a router is.
use Rattle.router.proofs.Kept.{marked_router}
use Rattle.router.proofs.router.Router.mark.Goals as goal

pub invariant_of-self : goal.invariant_of-self
invariant_of-self c = marked_router _ _ c.self.invariant
