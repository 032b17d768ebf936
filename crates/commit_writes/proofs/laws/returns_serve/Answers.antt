use Rattle.commit_writes.proofs.Actions.{returns_serve}
use Rattle.commit_writes.proofs.laws.returns_serve.Goals as goal

pub returns : goal.returns
returns c = returns_serve
