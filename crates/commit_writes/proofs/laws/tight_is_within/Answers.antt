use Rattle.commit_writes.proofs.Bounds.{tight_within}
use Rattle.commit_writes.proofs.laws.tight_is_within.Goals as goal

pub returns : goal.returns
returns c = tight_within
