use Rattle.std.proofs.Common.{subst}
use Rattle.std.specs.Prelude.{IfErr, IfOk, IfSome}
use Rattle.line_judge.specs.Followed.{RefusesLine, Takes}
use Rattle.two_judges.specs.InStep.{AreInStep}
use Rattle.two_judges.proofs.judge.DriverJudge.take.Goals as goal

pub by_order-requires : goal.by_order-requires
by_order-requires c = subst (λ order. IfSome order (λ check. AreInStep check c.self.inside.packets)) c.in-Some.is c.self.invariant

pub returns-in-None-clause-taken : goal.returns-in-None-clause-taken
returns-in-None-clause-taken c = subst (λ judge. IfOk c.by_packets.result (λ next. Takes judge c.args.line.now next)) c.self.view_is c.by_packets.ensures.taken

pub returns-in-None-clause-refused : goal.returns-in-None-clause-refused
returns-in-None-clause-refused c = subst (λ judge. IfErr c.by_packets.result (RefusesLine judge c.args.line.now)) c.self.view_is c.by_packets.ensures.refused

pub returns-in-Some-clause-taken : goal.returns-in-Some-clause-taken
returns-in-Some-clause-taken c = subst (λ judge. IfOk c.by_order.result (λ next. Takes judge c.args.line.now next)) c.self.view_is c.by_order.ensures.taken

pub returns-in-Some-clause-refused : goal.returns-in-Some-clause-refused
returns-in-Some-clause-refused c = subst (λ judge. IfErr c.by_order.result (RefusesLine judge c.args.line.now)) c.self.view_is c.by_order.ensures.refused
