use Rattle.readback.proofs.Counts.{restarts_counted}
use Rattle.readback.proofs.rest_laws.planned_restarts_are_counted.Goals as goal

pub returns : goal.returns
returns c = restarts_counted
