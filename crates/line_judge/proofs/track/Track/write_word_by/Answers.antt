use Rattle.std.proofs.Common.{sym, subst}
use Rattle.std.proofs.lemmas.Result.{on_ok_weaker, IfErr-weaker}
use Rattle.rule_store.specs.Batch.{set_after}
use Rattle.driver_trace.specs.declared.Asked.TheVariants.{OldOrNew}
use Rattle.tcam_device.specs.declared.Write.TheVariants as writes
use Rattle.tcam_device.specs.State.{apply}
use Rattle.line_judge.specs.Tracked.{IsEventFault, IsJudgedEvent}
use Rattle.line_judge.proofs.Judged.{fault_at, table_judged}
use Rattle.line_judge.proofs.track.Track.write_word_by.Goals as goal

pub returns-in-Ok-clause-written : goal.returns-in-Ok-clause-written
returns-in-Ok-clause-written c =
    on_ok_weaker c.go_on.result (λ same. subst (IsJudgedEvent c.args.self.now (apply c.args.self.now.device (writes.Table c.args.field c.args.port c.args.word))) (sym same)
    (table_judged c.args.self.now c.requires.open c.args.ahead c.requires.ahead c.write.new.self c.args.field c.args.port c.args.word c.port_cube-cube.result c.write.ensures c.port_cube-cube.ensures c.in-Ok.ensures))
    c.go_on.ensures.counted

pub returns-in-Ok-clause-stopped : goal.returns-in-Ok-clause-stopped
returns-in-Ok-clause-stopped c =
    IfErr-weaker c.go_on.result _ _ (λ fault is. subst (IsEventFault c.args.self.now (apply c.args.self.now.device (writes.Table c.args.field c.args.port c.args.word))) (sym is) tt) c.go_on.ensures.memory

pub returns-in-Err-clause-stopped : goal.returns-in-Err-clause-stopped
returns-in-Err-clause-stopped c =
    fault_at c.args.self.now.by OldOrNew c.write.new.self (apply c.args.self.now.device (writes.Table c.args.field c.args.port c.args.word)) c.args.self.now.rules c.args.ahead (set_after c.args.self.now.rules c.args.self.now.batch) c.in-Err.fault
    c.write.ensures c.requires.ahead c.in-Err.ensures
