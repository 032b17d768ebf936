use Rattle.iptables.proofs.Pieces.{sibling-below}
use Rattle.iptables.proofs.blocks.put_sibling.Goals as goal

pub numbered_block-requires-clause-fits : goal.numbered_block-requires-clause-fits
numbered_block-requires-clause-fits c = rw c.sibling.ensures (sibling-below c.args.number c.args.len c.requires.some c.requires.fits)
