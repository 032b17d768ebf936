use Rattle.commit_writes.proofs.Actions.{commits_serve}
use Rattle.commit_writes.proofs.laws.commits_serve.Goals as goal

pub returns : goal.returns
returns c = commits_serve
