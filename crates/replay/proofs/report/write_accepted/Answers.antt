-- The line is that of the numbers.
use Rattle.replay.proofs.report.write_accepted.Goals as goal

pub returns : goal.returns
returns g c = rw c.accepted.ensures.text at c.write.ensures
