use Rattle.trace_lookups.proofs.LookUps.{orderly_serve}
use Rattle.trace_lookups.proofs.laws.orderly_traces_serve.Goals as goal

pub returns : goal.returns
returns c = orderly_serve
