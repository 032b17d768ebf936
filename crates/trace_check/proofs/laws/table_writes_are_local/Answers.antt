use Rattle.trace_check.proofs.LocalWords.{table_writes_are_local}
use Rattle.trace_check.proofs.laws.table_writes_are_local.Goals as goal

pub returns : goal.returns
returns c = table_writes_are_local
