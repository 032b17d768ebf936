use Rattle.replay.proofs.parting.Rest.{rests-taken}
use Rattle.replay.proofs.laws.rests_are_taken.Goals as goal

pub returns : goal.returns
returns c = rests-taken
