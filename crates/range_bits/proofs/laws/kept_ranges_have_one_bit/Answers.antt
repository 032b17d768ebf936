use Rattle.range_bits.proofs.Changes.{IsFieldMap-kept_ranges}
use Rattle.range_bits.proofs.laws.kept_ranges_have_one_bit.Goals as goal

pub returns : goal.returns
returns c = IsFieldMap-kept_ranges
