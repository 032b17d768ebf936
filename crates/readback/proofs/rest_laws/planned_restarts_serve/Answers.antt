use Rattle.readback.proofs.Served.{restarts_serve}
use Rattle.readback.proofs.rest_laws.planned_restarts_serve.Goals as goal

pub returns : goal.returns
returns c = restarts_serve
