use Rattle.readback.proofs.Restart.{rests_planned}
use Rattle.readback.proofs.rest_laws.planned_rests_pass_stages.Goals as goal

pub returns : goal.returns
returns c = rests_planned
