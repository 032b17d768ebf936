-- A router before its first act.
use Rattle.router.proofs.Kept.{begun_router}
use Rattle.router.proofs.router.Router.new.Goals as goal

pub invariant_of-result : goal.invariant_of-result
invariant_of-result c = rw (c.in_ok-new.ensures, c.in_ok-new-2.ensures, c.new-3.ensures, c.new-4.ensures) (begun_router c.args.slots c.args.mode c.args.placement c.args.version c.args.trace)
