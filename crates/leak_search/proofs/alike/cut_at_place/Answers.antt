use Rattle.std.proofs.Common.{refl}
use Rattle.leak_search.proofs.alike.cut_at_place.Goals as goal

pub returns-in-Splits : goal.returns-in-Splits
returns-in-Splits c = c.in-Splits.ensures.splits c.in-Splits.lane c.in-Splits.bit refl
