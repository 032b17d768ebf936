use Rattle.driver_trace.proofs.Leaks.{leaks_not_hitless}
use Rattle.driver_trace.proofs.laws.leaks_are_not_hitless.Goals as goal

pub returns : goal.returns
returns c = leaks_not_hitless
