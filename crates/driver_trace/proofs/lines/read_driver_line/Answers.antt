use Rattle.std.proofs.Common.{rules}
use Rattle.driver_trace.proofs.Read.{other_read}
use Rattle.driver_trace.proofs.lines.read_driver_line.Goals as goal

pub returns-in-Err-Bad-clause-line : goal.returns-in-Err-Bad-clause-line
returns-in-Err-Bad-clause-line c = other_read _ _ _ (c.in-Err-Bad.ensures.bad (search rules)) c.read_other.ensures.line
