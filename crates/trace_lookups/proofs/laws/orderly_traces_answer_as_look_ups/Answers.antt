use Rattle.trace_lookups.proofs.Pipelines.{orderly_answer}
use Rattle.trace_lookups.proofs.laws.orderly_traces_answer_as_look_ups.Goals as goal

pub returns : goal.returns
returns c = orderly_answer
