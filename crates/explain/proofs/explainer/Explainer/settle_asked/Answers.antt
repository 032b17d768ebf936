use Rattle.std.proofs.Common.{refl, sym, subst}
use Rattle.settled_changes.specs.Requested.{IsAsked}
use Rattle.explain.specs.Rounds.{Explained}
use Rattle.explain.proofs.Settled.{asked-settled}
use Rattle.explain.proofs.explainer.Explainer.settle_asked.Goals as goal

pub settle-requires-clause-asked : goal.settle-requires-clause-asked
settle-requires-clause-asked c = subst (λ (n : Explained). IsAsked n.asked) (sym c.self.view_is) c.requires

pub returns-in_ok-lines-in-Ok-clause-taken : goal.returns-in_ok-lines-in-Ok-clause-taken
returns-in_ok-lines-in-Ok-clause-taken c =
    asked-settled _ c.args.self.now _ c.in-Ok.batch c.self.view_is c.in-Ok.ensures.settled c.in-Ok.ensures.taken c.in-Ok.ensures.sound refl
