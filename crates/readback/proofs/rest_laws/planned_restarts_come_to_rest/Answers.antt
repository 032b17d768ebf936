use Rattle.readback.proofs.AtRest.{restarts_come_to_rest}
use Rattle.readback.proofs.rest_laws.planned_restarts_come_to_rest.Goals as goal

pub returns : goal.returns
returns c = restarts_come_to_rest
