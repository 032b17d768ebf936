use Rattle.explain_router.proofs.Failures.{not-counted, or-memory}
use Rattle.explain_router.proofs.stop.Goals as goal

pub returns-in-Ok-clause-kind : goal.returns-in-Ok-clause-kind
returns-in-Ok-clause-kind g c = or-memory _ _ c.tell.ensures.kind

pub returns-in-Err-clause-write : goal.returns-in-Err-clause-write
returns-in-Err-clause-write g c = not-counted _ _ (λ e. cc)
