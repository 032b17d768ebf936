use Rattle.std.proofs.Common.{ap}
use Rattle.line_judge.specs.Followed.{Followed}
use Rattle.two_judges.proofs.Steps.{first_step}
use Rattle.two_judges.proofs.judge.DriverJudge.new.Goals as goal

pub invariant_of-result : goal.invariant_of-result
invariant_of-result c =
    first_step c.in_ok-order.order c.in_ok-packets.packets c.in_ok-order.ensures (ap (λ (judge : Followed). judge.place) c.in_ok-packets.ensures)
    (ap (λ (judge : Followed). judge.now) c.in_ok-packets.ensures)
