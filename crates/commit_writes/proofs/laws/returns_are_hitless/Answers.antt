use Rattle.commit_writes.proofs.Seen.{returns_are_hitless}
use Rattle.commit_writes.proofs.laws.returns_are_hitless.Goals as goal

pub returns : goal.returns
returns c = returns_are_hitless
