use Rattle.trace_check.proofs.Whole.{places_are_exact}
use Rattle.trace_check.proofs.laws.places_are_exact.Goals as goal

pub returns : goal.returns
returns c = places_are_exact
