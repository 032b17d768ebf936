use Rattle.std.proofs.Common.{sym, subst}
use Rattle.std.proofs.lemmas.Result.{on_ok_weaker, IfErr-weaker}
use Rattle.trace_file.specs.declared.TraceLine.TheVariants as lines
use Rattle.trace_check.specs.Traced.{TakesLine}
use Rattle.trace_check.proofs.LinesTaken.{del_takes, memory_breaks}
use Rattle.trace_check.proofs.trace.Trace.del.Goals as goal

pub returns-clause-taken : goal.returns-clause-taken
returns-clause-taken c =
    on_ok_weaker c.push.result (λ same. subst (TakesLine c.args.self.now (lines.Del c.args.priority)) (sym same) (del_takes c.args.self.now c.args.priority c.requires)) c.push.ensures.pushed

pub returns-clause-broken : goal.returns-clause-broken
returns-clause-broken c = IfErr-weaker c.push.result _ _ (λ fault is. memory_breaks c.args.self.now (lines.Del c.args.priority) fault is) c.push.ensures.fault
