use Rattle.readback.proofs.Stopped.{restarts_stopped}
use Rattle.readback.proofs.rest_laws.stopped_restarts_are_current.Goals as goal

pub returns : goal.returns
returns c = restarts_stopped
