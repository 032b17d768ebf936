use Rattle.batch_order.proofs.Made.{journal_made}
use Rattle.batch_order.proofs.laws.journals_grow.Goals as goal

pub returns : goal.returns
returns c = journal_made
