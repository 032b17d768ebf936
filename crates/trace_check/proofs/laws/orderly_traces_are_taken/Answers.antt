use Rattle.trace_check.proofs.Taken.{orderly_traces_are_taken}
use Rattle.trace_check.proofs.laws.orderly_traces_are_taken.Goals as goal

pub returns : goal.returns
returns c = orderly_traces_are_taken
