use Rattle.driver_trace.proofs.No.{no_is_leak}
use Rattle.driver_trace.proofs.laws.no_is_a_leak.Goals as goal

pub returns : goal.returns
returns c = no_is_leak
