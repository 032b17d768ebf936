use Rattle.readback.proofs.Restart.{restarts_go_on}
use Rattle.readback.proofs.rest_laws.planned_restarts_go_on.Goals as goal

pub returns : goal.returns
returns c = restarts_go_on
