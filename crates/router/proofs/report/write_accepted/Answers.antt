-- The line is that of its words.
use Rattle.router.proofs.report.write_accepted.Goals as goal

pub returns : goal.returns
returns g c = rw c.accepted.ensures.text at c.write.ensures
