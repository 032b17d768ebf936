use Rattle.std.proofs.Common.{inl, inr, refl}
use Rattle.explain.proofs.Counts.{counted-err, counted-ok}
use Rattle.explain_cli.proofs.top.tell.Goals as goal

pub returns-in-Ok-clause-kind : goal.returns-in-Ok-clause-kind
returns-in-Ok-clause-kind g c = inl refl

pub returns-in-Ok-clause-write : goal.returns-in-Ok-clause-write
returns-in-Ok-clause-write g c = counted-ok _ _ _ _ c.in-Ok.ensures.cause c.requires

pub returns-in-Err-clause-kind : goal.returns-in-Err-clause-kind
returns-in-Err-clause-kind g c = inr (inl refl)

pub returns-in-Err-clause-write : goal.returns-in-Err-clause-write
returns-in-Err-clause-write g c = counted-err _ _ _ _ c.in-Err.ensures.cause refl
