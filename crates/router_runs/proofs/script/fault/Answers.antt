use Rattle.router_runs.proofs.Closings.{closes-cut}
use Rattle.router_runs.proofs.script.fault.Goals as goal

pub returns-in-Err-clause-closes : goal.returns-in-Err-clause-closes
returns-in-Err-clause-closes g c = closes-cut _ _ _ _ _ _ _ _ (rw c.from.ensures at c.in-Err.ensures)
