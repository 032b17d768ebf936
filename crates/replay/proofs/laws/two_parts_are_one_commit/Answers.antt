use Rattle.replay.proofs.parting.Rest.{one-commit}
use Rattle.replay.proofs.laws.two_parts_are_one_commit.Goals as goal

pub returns : goal.returns
returns c = one-commit
