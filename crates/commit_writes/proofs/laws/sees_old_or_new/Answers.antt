use Rattle.commit_writes.proofs.Seen.{sees_old_or_new}
use Rattle.commit_writes.proofs.laws.sees_old_or_new.Goals as goal

pub returns : goal.returns
returns c = sees_old_or_new
