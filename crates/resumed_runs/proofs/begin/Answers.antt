use Rattle.resumed_runs.proofs.Starting.{begun_going}
use Rattle.resumed_runs.proofs.begin.Goals as goal

pub returns-clause-going : goal.returns-clause-going
returns-clause-going c = rw c.in_ok-new.ensures (begun_going _ _ _ _ _ _)
