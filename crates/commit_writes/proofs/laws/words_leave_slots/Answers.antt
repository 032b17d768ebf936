use Rattle.commit_writes.proofs.Bounds.{words_leave}
use Rattle.commit_writes.proofs.laws.words_leave_slots.Goals as goal

pub returns : goal.returns
returns c = words_leave
