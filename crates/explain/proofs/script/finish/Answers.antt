use Rattle.std.proofs.Common.{ap, sym, ◌∙◌}
use Rattle.explain.specs.Rounds.{Explained}
use Rattle.explain.proofs.Counts.{not-counted, told-right, told-wrong}
use Rattle.explain.proofs.script.finish.Goals as goal

pub returns-in-Err-clause-write : goal.returns-in-Err-clause-write
returns-in-Err-clause-write g c = not-counted _ _ (λ e. cc)

pub returns-then-explainer-clause-kind : goal.returns-then-explainer-clause-kind
returns-then-explainer-clause-kind g c = told-wrong _ _ (ap (λ (e : Explained). e.wrong) (sym c.explainer.view_is) ∙ c.if-explainer.true) c.tell.ensures.kind

pub returns-clause-kind : goal.returns-clause-kind
returns-clause-kind g c = told-right _ _ (ap (λ (e : Explained). e.wrong) (sym c.explainer.view_is) ∙ c.if-explainer.false) c.tell-else-explainer.ensures.kind
