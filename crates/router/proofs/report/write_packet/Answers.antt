-- The line is that of its words.
use Rattle.router.proofs.report.write_packet.Goals as goal

pub returns : goal.returns
returns g c = rw c.packet.ensures.text at c.write.ensures
