use Rattle.trace_lookups.proofs.LookUps.{orderly_serve_look_ups}
use Rattle.trace_lookups.proofs.laws.orderly_traces_serve_look_ups.Goals as goal

pub returns : goal.returns
returns c = orderly_serve_look_ups
