use Rattle.split_device.proofs.Course.{reads_are_by_commits}
use Rattle.split_device.proofs.laws.reads_are_by_commits.Goals as goal

pub returns : goal.returns
returns c = reads_are_by_commits
