use Rattle.trace_check.proofs.Taken.{taken_traces_are_hitless}
use Rattle.trace_check.proofs.laws.taken_traces_are_hitless.Goals as goal

pub returns : goal.returns
returns c = taken_traces_are_hitless
