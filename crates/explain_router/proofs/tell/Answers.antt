use Rattle.std.proofs.Common.{refl}
use Rattle.explain_router.proofs.Failures.{counted-err, counted-ok}
use Rattle.explain_router.proofs.tell.Goals as goal

pub returns-in-Ok-clause-write : goal.returns-in-Ok-clause-write
returns-in-Ok-clause-write g c = counted-ok _ _ _ _ c.in-Ok.ensures.cause c.requires

pub returns-in-Err-clause-write : goal.returns-in-Err-clause-write
returns-in-Err-clause-write g c = counted-err _ _ _ _ c.in-Err.ensures.cause refl
