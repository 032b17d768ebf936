use Rattle.range_bits.proofs.Words.{set_by_or, cleared_by_and}
use Rattle.range_bits.proofs.with_bit.Goals as goal

pub returns-then-on : goal.returns-then-on
returns-then-on c = set_by_or c.args.word c.args.bit c.args.on c.requires c.if-on.true

pub returns-else-on : goal.returns-else-on
returns-else-on c = cleared_by_and c.args.word c.args.bit c.args.on c.ranges.word.fits c.requires c.if-on.false
