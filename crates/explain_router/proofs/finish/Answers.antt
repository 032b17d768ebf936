use Rattle.explain_router.proofs.Failures.{told-right, told-wrong}
use Rattle.explain_router.proofs.finish.Goals as goal

pub returns-then-counts-clause-kind : goal.returns-then-counts-clause-kind
returns-then-counts-clause-kind g c = told-wrong _ _ c.if-counts.true c.tell.ensures.kind

pub returns-else-counts-clause-kind : goal.returns-else-counts-clause-kind
returns-else-counts-clause-kind g c = told-right _ _ c.if-counts.false c.tell-else-counts.ensures.kind
