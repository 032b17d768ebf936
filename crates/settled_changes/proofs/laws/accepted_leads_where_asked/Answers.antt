use Rattle.settled_changes.proofs.AskedFor.{accepted-leads}
use Rattle.settled_changes.proofs.laws.accepted_leads_where_asked.Goals as goal

pub returns : goal.returns
returns c = accepted-leads
