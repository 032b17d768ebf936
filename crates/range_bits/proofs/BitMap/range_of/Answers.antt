use Rattle.range_bits.proofs.FieldMaps.{right_at}
use Rattle.range_bits.proofs.BitMap.range_of.Goals as goal

pub returns-clause-right : goal.returns-clause-right
returns-clause-right c = right_at c.self.inside.ranges c.args.bit c.index-ranges-bit.result c.self.invariant c.if-bit-ge-FIELD_BITS.false
