-- The run is one, as its type says.
use Rattle.std.proofs.Common.{subst}
use Rattle.replay.specs.Running.{IsRun}
use Rattle.replay.proofs.run.Run.open.Goals as goal

pub returns-then-is_json-clause-run : goal.returns-then-is_json-clause-run
returns-then-is_json-clause-run g c = subst IsRun c.self.view_is c.self.invariant

pub returns-else-is_json-clause-run : goal.returns-else-is_json-clause-run
returns-else-is_json-clause-run g c = subst IsRun c.self.view_is c.self.invariant
