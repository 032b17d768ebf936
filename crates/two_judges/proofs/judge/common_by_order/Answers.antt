use Rattle.std.proofs.Common.{sym, subst}
use Rattle.driver_trace.specs.declared.DriverLine.TheVariants.{Common}
use Rattle.driver_trace.specs.Judged.{IsHitlessLine}
use Rattle.line_judge.specs.Followed.{Takes}
use Rattle.two_judges.proofs.Ordered.{ordered_hitless}
use Rattle.two_judges.proofs.Steps.{step_on}
use Rattle.two_judges.proofs.judge.common_by_order.Goals as goal

pub followed-requires-clause-hitless : goal.followed-requires-clause-hitless
followed-requires-clause-hitless c =
    subst (IsHitlessLine c.args.packets.by c.args.packets.now) (sym c.requires.same)
    (subst (λ now. IsHitlessLine c.args.packets.by now (Common c.args.common.now)) c.requires.step.known
    (ordered_hitless c.args.packets.by c.args.check.now c.requires.step.set c.args.common.now c.line_is_right.ensures c.in-Ok.ensures.taken.keeps))

pub followed-requires-clause-step : goal.followed-requires-clause-step
followed-requires-clause-step c = λ next taken.
    step_on c.args.check c.in-Ok.order c.args.packets next c.args.common.now c.line_is_right.ensures c.requires.step c.in-Ok.ensures.taken
    (subst (λ line. Takes c.args.packets line next) c.requires.same taken)
