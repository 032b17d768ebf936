use Rattle.readback.proofs.AtRest.{restarts_lead_on}
use Rattle.readback.proofs.rest_laws.planned_restarts_lead_on.Goals as goal

pub returns : goal.returns
returns c = restarts_lead_on
