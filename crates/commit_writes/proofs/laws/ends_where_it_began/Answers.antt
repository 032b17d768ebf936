use Rattle.commit_writes.proofs.Undone.{undo_ends}
use Rattle.commit_writes.proofs.laws.ends_where_it_began.Goals as goal

pub returns : goal.returns
returns c = undo_ends
