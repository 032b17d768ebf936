use Rattle.trace_check.proofs.LinesTaken.{end_takes}
use Rattle.trace_check.proofs.trace.Trace.check_count.Goals as goal

pub returns-then-writes-self-clause-taken : goal.returns-then-writes-self-clause-taken
returns-then-writes-self-clause-taken c = end_takes c.args.self.now c.args.writes c.requires c.if-writes-self.true
