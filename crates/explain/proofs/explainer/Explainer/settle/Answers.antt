use Rattle.std.proofs.Common.{◌≡◌, true, false, sym, ◌∙◌, subst}
use Rattle.settled_changes.specs.Requested.{IsAsked}
use Rattle.explain.specs.Rounds.{Explained}
use Rattle.explain.proofs.Settled.{none-settled}
use Rattle.explain.proofs.explainer.Explainer.settle.Goals as goal

pub settle_asked-requires : goal.settle_asked-requires
settle_asked-requires c = subst (λ (n : Explained). IsAsked n.asked) c.self.view_is (c.is_any.ensures.0 c.if-is_any.true)

pub returns-clause-taken : goal.returns-clause-taken
returns-clause-taken c =
    none-settled _ c.args.self.now c.self.view_is
    (λ asked.
    let bad : true ≡ false = sym (c.is_any.ensures.1 asked) ∙ c.if-is_any.false in
    cc)
