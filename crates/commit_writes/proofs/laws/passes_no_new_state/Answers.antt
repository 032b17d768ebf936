use Rattle.commit_writes.proofs.Undone.{undo_passes}
use Rattle.commit_writes.proofs.laws.passes_no_new_state.Goals as goal

pub returns : goal.returns
returns c = undo_passes
