use Rattle.std.proofs.Common.{sym, subst, refl}
use Rattle.std.proofs.lemmas.Result.{on_ok_weaker, IfErr-weaker}
use Rattle.rule_store.specs.Batch.{set_after}
use Rattle.driver_trace.specs.declared.Asked.TheVariants.{New}
use Rattle.line_judge.specs.Tracked.{IsFaultOf, between}
use Rattle.line_judge.proofs.Judged.{fault_at, done_judged}
use Rattle.line_judge.proofs.track.Track.done_by.Goals as goal

pub returns-in-Ok-clause-taken : goal.returns-in-Ok-clause-taken
returns-in-Ok-clause-taken c =
    on_ok_weaker c.close.result (λ same. done_judged c.args.self.now c.close.new.self c.args.ahead c.requires.open c.requires.ahead c.is_right.ensures.is_set c.is_right-2.ensures.is_set c.in-Ok.ensures same)
    c.close.ensures.closed

pub returns-in-Ok-clause-stopped : goal.returns-in-Ok-clause-stopped
returns-in-Ok-clause-stopped c = IfErr-weaker c.close.result _ _ (λ fault is. subst (IsFaultOf c.args.self.now.by New (between c.args.self.now)) (sym is) tt) c.close.ensures.memory

pub returns-in-Err-clause-stopped : goal.returns-in-Err-clause-stopped
returns-in-Err-clause-stopped c =
    fault_at c.args.self.now.by New c.args.self.now.device c.args.self.now.device c.args.self.now.rules c.args.ahead (set_after c.args.self.now.rules c.args.self.now.batch) c.in-Err.fault refl c.requires.ahead
    c.in-Err.ensures
