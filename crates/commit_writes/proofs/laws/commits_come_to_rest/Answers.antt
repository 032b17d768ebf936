use Rattle.commit_writes.proofs.AtRest.{commits_come_to_rest}
use Rattle.commit_writes.proofs.laws.commits_come_to_rest.Goals as goal

pub returns : goal.returns
returns c = commits_come_to_rest
