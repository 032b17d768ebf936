use Rattle.range_bits.proofs.FieldMaps.{IsFieldMap-freed}
use Rattle.range_bits.proofs.BitMap.release.Goals as goal

pub invariant_of-self : goal.invariant_of-self
invariant_of-self c = IsFieldMap-freed c.self.inside.ranges c.args.bit c.self.invariant

pub returns-clause-map : goal.returns-clause-map
returns-clause-map c = invariant_of-self c
