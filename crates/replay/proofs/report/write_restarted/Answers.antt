-- The line is that of the numbers.
use Rattle.replay.proofs.report.write_restarted.Goals as goal

pub returns : goal.returns
returns g c = rw c.restarted.ensures.text at c.write.ensures
