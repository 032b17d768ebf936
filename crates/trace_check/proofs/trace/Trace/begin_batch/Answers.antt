use Rattle.trace_check.proofs.LinesTaken.{commit_takes}
use Rattle.trace_check.proofs.trace.Trace.begin_batch.Goals as goal

pub returns : goal.returns
returns c = rw c.clear.ensures (commit_takes c.args.self.now c.args.n c.requires)
