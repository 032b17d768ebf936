use Rattle.trace_check.proofs.Kept.{segments_keep}
use Rattle.trace_check.proofs.laws.segments_are_orderly.Goals as goal

pub returns : goal.returns
returns c = segments_keep
