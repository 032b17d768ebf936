use Rattle.readback.proofs.ShownRests.{restarts_show}
use Rattle.readback.proofs.rest_laws.planned_restarts_show_old_or_new.Goals as goal

pub returns : goal.returns
returns c = restarts_show
