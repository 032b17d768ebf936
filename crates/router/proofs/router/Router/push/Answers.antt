-- What a change leaves of the router.
use Rattle.std.proofs.Common.{subst, sym}
use Rattle.router.proofs.Kept.{pushed_routes}
use Rattle.router.specs.declared.Side.{Side}
use Rattle.router.specs.declared.RouterAct.TheVariants.{Change}
use Rattle.router.specs.declared.Side.TheVariants as side
use Rattle.router.specs.Routing.{IsActOf, Routing}
use Rattle.router.proofs.router.Router.push.Goals as goal

pub invariant_of-self-in-Routes : goal.invariant_of-self-in-Routes
invariant_of-self-in-Routes c =
    pushed_routes c.join-in-Routes.result _ c.args.command c.join-in-Routes.new.batch c.self.invariant
    (subst (λ (r : Routing). IsActOf r.version (Change side.Routes c.args.command)) (sym c.self.view_is)
    (subst (λ (which : Side). IsActOf c.args.self.now.version (Change which c.args.command)) c.in-Routes.is c.requires.change)) c.join-in-Routes.ensures.pushed c.join-in-Routes.ensures.unchanged
