use Rattle.std.proofs.Common.{inr, refl}
use Rattle.explain.proofs.Counts.{not-counted}
use Rattle.explain_cli.proofs.top.tell_wrong.Goals as goal

pub returns-in-Err-clause-kind : goal.returns-in-Err-clause-kind
returns-in-Err-clause-kind g c = inr (inr refl)

pub returns-in-Err-clause-write : goal.returns-in-Err-clause-write
returns-in-Err-clause-write g c = not-counted _ _ (λ e. cc)
