use Rattle.json_traces.proofs.Told.{reports_get_yes}
use Rattle.json_traces.proofs.laws.orderly_reports_get_yes.Goals as goal

pub returns : goal.returns
returns c = reports_get_yes
