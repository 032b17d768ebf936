-- What the rest of the commit comes to, once it is marked whether the sink failed.
use Rattle.std.proofs.Common.{rules, ◌≡◌, None, refl, ap, ◌∙◌}
use Rattle.std.specs.Prelude.{◌||◌}
use Rattle.replay.specs.Running.{Running, act_outcome_of, sink_failed}
use Rattle.replay.proofs.course.RestOf.{never-idle}
use Rattle.replay.proofs.between.Exits.{marked-resumes}
use Rattle.replay.proofs.between.InStep.{in-step-kept, in-step-marked}
use Rattle.replay.proofs.flight.Leftover.{none-of-left, words-marked}
use Rattle.replay.proofs.run.Run.resume.Goals as goal

pub returns-clause-resumes : goal.returns-clause-resumes
returns-clause-resumes g c = λ which before front unfinished at current.
    marked-resumes c.carry_out-result.result _ before _ front c.carry_out-result.new.self c.mark.new.self _ _ _ _ _ (rw c.act_outcome.ensures at c.mark.ensures) c.carry_out-result.ensures.broken
    (c.carry_out-result.ensures.resumes which before front unfinished at current)

pub returns-then-is_none-clause-resumes : goal.returns-then-is_none-clause-resumes
returns-then-is_none-clause-resumes g c = λ which before front unfinished at current.
    let none : c.args.self.now.manager.held ≡ None = search rules in
    absurd (never-idle (g.D.Writable.view c.args.device.now).slots before front c.args.self.now unfinished none)

pub returns-clause-in_flight : goal.returns-clause-in_flight
returns-clause-in_flight g c = words-marked c.carry_out-result.new.self _ (act_outcome_of c.carry_out-result.result) _ _ (rw c.act_outcome.ensures at c.mark.ensures) c.carry_out-result.ensures.in_flight

pub returns-then-is_none-clause-in_flight : goal.returns-then-is_none-clause-in_flight
returns-then-is_none-clause-in_flight g c = none-of-left c.args.self.now (g.D.Writable.view c.args.device.now).flight (search rules) c.requires.in_flight

pub returns-clause-broken : goal.returns-clause-broken
returns-clause-broken g c =
    ap (λ (run : Running). run.broken) (rw c.act_outcome.ensures at c.mark.ensures) ∙ ap (λ lost. lost || sink_failed (act_outcome_of c.carry_out-result.result)) c.carry_out-result.ensures.broken

pub returns-clause-in_step : goal.returns-clause-in_step
returns-clause-in_step g c =
    in-step-marked (g.D.Writable.view c.args.device.now).slots c.args.self.now c.carry_out-result.new.self c.mark.new.self (act_outcome_of c.carry_out-result.result)
    (g.D.Writable.view c.args.device.now).events (g.D.Writable.view c.carry_out-result.new.device).events (g.D.Writable.view c.args.device.now).flight (g.D.Writable.view c.carry_out-result.new.device).flight (rw c.act_outcome.ensures at c.mark.ensures)
    (λ not_sink. c.carry_out-result.ensures.in_step (λ sink. not_sink (ap act_outcome_of sink)))

pub returns-then-is_none-clause-in_step : goal.returns-then-is_none-clause-in_step
returns-then-is_none-clause-in_step g c = in-step-kept (g.D.Writable.view c.args.device.now).slots c.args.self.now c.args.self.now (g.D.Writable.view c.args.device.now).events (g.D.Writable.view c.args.device.now).flight refl
