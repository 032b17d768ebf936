use Rattle.split_writes.proofs.Seen.{goes_on_by_events}
use Rattle.split_writes.proofs.laws.goes_on_by_events.Goals as goal

pub returns : goal.returns
returns c = goes_on_by_events
