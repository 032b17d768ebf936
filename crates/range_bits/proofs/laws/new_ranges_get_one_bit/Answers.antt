use Rattle.range_bits.proofs.Changes.{IsFieldMap-with_ranges}
use Rattle.range_bits.proofs.laws.new_ranges_get_one_bit.Goals as goal

pub returns : goal.returns
returns c = IsFieldMap-with_ranges
