use Rattle.json_traces.proofs.Promised.{promised_yes}
use Rattle.json_traces.proofs.laws.json_reports_get_yes.Goals as goal

pub returns : goal.returns
returns c = promised_yes
