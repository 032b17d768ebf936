use Rattle.driver_trace.proofs.Yes.{yes_is_hitless}
use Rattle.driver_trace.proofs.laws.yes_is_hitless_by_lines.Goals as goal

pub returns : goal.returns
returns c = yes_is_hitless
