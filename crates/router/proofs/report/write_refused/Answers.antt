-- The line is that of its words.
use Rattle.router.proofs.report.write_refused.Goals as goal

pub returns : goal.returns
returns g c = rw c.refused.ensures.text at c.write.ensures
