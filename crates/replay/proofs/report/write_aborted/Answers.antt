-- The line is that of the numbers.
use Rattle.replay.proofs.report.write_aborted.Goals as goal

pub returns : goal.returns
returns g c = rw c.aborted.ensures.text at c.write.ensures
