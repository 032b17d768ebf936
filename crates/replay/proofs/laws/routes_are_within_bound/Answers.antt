use Rattle.replay.proofs.between.Runs.{wider}
use Rattle.replay.proofs.laws.routes_are_within_bound.Goals as goal

pub returns : goal.returns
returns c = wider
