use Rattle.std.proofs.Common.{sym, subst, arith}
use Rattle.std.proofs.lemmas.Result.{on_ok_weaker, IfErr-weaker}
use Rattle.rule_store.specs.Batch.{set_after}
use Rattle.driver_trace.specs.declared.Asked.TheVariants.{OldOrNew}
use Rattle.tcam_device.specs.declared.Write.TheVariants as writes
use Rattle.tcam_device.specs.State.{apply}
use Rattle.line_judge.specs.Tracked.{IsEventFault, IsJudgedEvent}
use Rattle.line_judge.proofs.Judged.{fault_at, slot_judged}
use Rattle.line_judge.proofs.track.Track.write_slot_by.Goals as goal

pub put-stood-requires : goal.put-stood-requires
put-stood-requires c = let size = c.requires.open.sized in let used = c.requires.used in omega arith

pub returns-in-Ok-clause-written : goal.returns-in-Ok-clause-written
returns-in-Ok-clause-written c =
    on_ok_weaker c.go_on.result (λ same. subst (IsJudgedEvent c.args.self.now (apply c.args.self.now.device (writes.Slot c.args.slot c.args.content.now))) (sym same)
    (slot_judged c.args.self.now c.requires.open c.args.ahead c.requires.ahead c.put-stood.new.self c.args.slot c.args.content.now c.put-stood.result c.requires.used c.put-stood.ensures.stood c.put-stood.ensures.state
    c.in-Ok.ensures.one c.in-Ok.ensures.other)) c.go_on.ensures.counted

pub returns-in-Ok-clause-stopped : goal.returns-in-Ok-clause-stopped
returns-in-Ok-clause-stopped c =
    IfErr-weaker c.go_on.result _ _ (λ fault is. subst (IsEventFault c.args.self.now (apply c.args.self.now.device (writes.Slot c.args.slot c.args.content.now))) (sym is) tt) c.go_on.ensures.memory

pub returns-in-Err-clause-stopped : goal.returns-in-Err-clause-stopped
returns-in-Err-clause-stopped c =
    fault_at c.args.self.now.by OldOrNew c.put-stood.new.self (apply c.args.self.now.device (writes.Slot c.args.slot c.args.content.now)) c.args.self.now.rules c.args.ahead (set_after c.args.self.now.rules c.args.self.now.batch) c.in-Err.fault
    c.put-stood.ensures.state c.requires.ahead c.in-Err.ensures.one
