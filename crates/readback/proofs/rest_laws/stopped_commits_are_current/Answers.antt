use Rattle.readback.proofs.Stopped.{commits_stopped}
use Rattle.readback.proofs.rest_laws.stopped_commits_are_current.Goals as goal

pub returns : goal.returns
returns c = commits_stopped
