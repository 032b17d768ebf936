use Rattle.trace_lookups.proofs.LookUps.{taken_serve_look_ups}
use Rattle.trace_lookups.proofs.laws.taken_traces_serve_look_ups.Goals as goal

pub returns : goal.returns
returns c = taken_serve_look_ups
