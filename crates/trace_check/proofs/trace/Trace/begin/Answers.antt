use Rattle.trace_check.proofs.LinesTaken.{head_takes}
use Rattle.trace_check.proofs.trace.Trace.begin.Goals as goal

pub returns-in-Ok-clause-taken : goal.returns-in-Ok-clause-taken
returns-in-Ok-clause-taken c = head_takes c.args.self.now c.args.version c.args.acl c.args.bits c.args.slots c.in-Ok.device c.mode_of-self.result c.requires c.in-Ok.ensures c.mode_of-self.ensures
