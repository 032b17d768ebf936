-- Both batches are dropped.
use Rattle.router.proofs.Kept.{counted_router}
use Rattle.router.proofs.router.Router.count_commit.Goals as goal

pub invariant_of-self : goal.invariant_of-self
invariant_of-self c = rw (c.clear.ensures, c.clear-2.ensures) (counted_router _ c.self.invariant)
