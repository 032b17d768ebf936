use Rattle.explain.proofs.Counts.{not-counted, or-memory}
use Rattle.explain.proofs.script.stop.Goals as goal

pub returns-in-Ok-clause-kind : goal.returns-in-Ok-clause-kind
returns-in-Ok-clause-kind g c = or-memory _ _ c.tell.ensures.kind

pub returns-clause-write : goal.returns-clause-write
returns-clause-write g c = not-counted _ _ (λ e. cc)
