use Rattle.std.proofs.Common.{inr, refl}
use Rattle.leak_search.proofs.narrowing.take_in.Goals as goal

pub returns-in-Misses : goal.returns-in-Misses
returns-in-Misses c = inr (refl, c.in-Misses.ensures.misses refl)
