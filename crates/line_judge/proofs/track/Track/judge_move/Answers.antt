use Rattle.std.proofs.Common.{sym, subst}
use Rattle.std.proofs.lemmas.Result.{on_ok_weaker, IfErr-weaker}
use Rattle.driver_trace.specs.declared.Asked.TheVariants.{OldOrNew}
use Rattle.write_judge.specs.Judging.{StateBetween}
use Rattle.line_judge.specs.Tracked.{IsFaultOf}
use Rattle.line_judge.proofs.track.Track.judge_move.Goals as goal

pub returns-in-Ok-clause-judged : goal.returns-in-Ok-clause-judged
returns-in-Ok-clause-judged c = on_ok_weaker c.go_on.result (λ same. (c.in-Ok.ensures.one, c.in-Ok.ensures.other, same)) c.go_on.ensures.counted

pub returns-in-Ok-clause-stopped : goal.returns-in-Ok-clause-stopped
returns-in-Ok-clause-stopped c =
    let now : StateBetween = record { state = c.args.self.now.device; old = c.args.self.now.rules; new = c.args.ahead } in
    IfErr-weaker c.go_on.result _ _ (λ fault is. subst (IsFaultOf c.args.self.now.by OldOrNew now) (sym is) tt) c.go_on.ensures.memory

pub returns-in-Err-clause-stopped : goal.returns-in-Err-clause-stopped
returns-in-Err-clause-stopped c = c.in-Err.ensures.one
