use Rattle.json_traces.proofs.Whole.{json_runs_orderly}
use Rattle.json_traces.proofs.laws.json_runs_are_orderly.Goals as goal

pub returns : goal.returns
returns c = json_runs_orderly
