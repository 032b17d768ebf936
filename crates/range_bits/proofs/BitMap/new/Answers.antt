use Rattle.range_bits.proofs.FieldMaps.{IsFieldMap-no_ranges}
use Rattle.range_bits.proofs.BitMap.new.Goals as goal

pub invariant_of-result : goal.invariant_of-result
invariant_of-result c = IsFieldMap-no_ranges
