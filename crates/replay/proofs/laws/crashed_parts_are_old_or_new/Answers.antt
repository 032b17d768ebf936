use Rattle.replay.proofs.crash.Crashed.{parts_are}
use Rattle.replay.proofs.laws.crashed_parts_are_old_or_new.Goals as goal

pub returns : goal.returns
returns c = parts_are
