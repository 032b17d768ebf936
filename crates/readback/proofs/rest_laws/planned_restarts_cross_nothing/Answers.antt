use Rattle.readback.proofs.Counts.{restarts_uncrossed}
use Rattle.readback.proofs.rest_laws.planned_restarts_cross_nothing.Goals as goal

pub returns : goal.returns
returns c = restarts_uncrossed
