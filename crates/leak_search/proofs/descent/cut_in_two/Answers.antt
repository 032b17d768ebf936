use Rattle.std.proofs.Common.{refl}
use Rattle.leak_search.proofs.descent.cut_in_two.Goals as goal

pub returns : goal.returns
returns c = (refl, c.halves.ensures)
