use Rattle.trace_check.proofs.Local.{slot_writes_are_local}
use Rattle.trace_check.proofs.laws.slot_writes_are_local.Goals as goal

pub returns : goal.returns
returns c = slot_writes_are_local
