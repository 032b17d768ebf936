use Rattle.std.proofs.Common.{arith}
use Rattle.iptables.proofs.Pieces.{number-below}
use Rattle.iptables.proofs.blocks.number_of.Goals as goal

pub returns-clause-fits : goal.returns-clause-fits
returns-clause-fits c = rw c.len-2.ensures.value (number-below c.addr.result c.args.block.now.len (omega (arith, c.len.ensures.value, c.len.ensures.fits)) c.addr.ensures.fits)
