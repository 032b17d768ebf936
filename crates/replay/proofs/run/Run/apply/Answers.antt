-- What an act comes to, once it is marked whether the sink failed.
use Rattle.std.proofs.Common.{ap}
use Rattle.replay.specs.Running.{Running}
use Rattle.replay.proofs.between.InStep.{sink_failed-marked, comes-marked, in-step-marked, stays-marked}
use Rattle.replay.proofs.flight.Leftover.{words-marked}
use Rattle.replay.proofs.run.Run.apply.Goals as goal

pub returns-clause-acts : goal.returns-clause-acts
returns-clause-acts g c = λ which.
    comes-marked c.perform-result.result _ c.args.self.now c.args.act.now c.perform-result.new.self c.mark.new.self _ _ _ _ c.mark.ensures (c.perform-result.ensures.acts which)

pub returns-clause-unfinished : goal.returns-clause-unfinished
returns-clause-unfinished g c = λ which cut at.
    stays-marked c.perform-result.result _ _ c.args.act.now _ c.perform-result.new.self c.mark.new.self _ _ _ _ _ c.mark.ensures cut (c.perform-result.ensures.unfinished which cut at)

pub returns-clause-broken : goal.returns-clause-broken
returns-clause-broken g c =
    sink_failed-marked c.args.act.now c.perform-result.result c.perform-result.new.self.broken c.mark.new.self.broken (ap (λ (run : Running). run.broken) c.mark.ensures) c.perform-result.ensures.broken

pub returns-clause-in_flight : goal.returns-clause-in_flight
returns-clause-in_flight g c = words-marked c.perform-result.new.self _ c.perform-result.result _ _ c.mark.ensures c.perform-result.ensures.in_flight

pub returns-clause-in_step : goal.returns-clause-in_step
returns-clause-in_step g c =
    in-step-marked (g.D.Writable.view c.args.device.now).slots c.args.self.now c.perform-result.new.self c.mark.new.self c.perform-result.result
    (g.D.Writable.view c.args.device.now).events (g.D.Writable.view c.perform-result.new.device).events (g.D.Writable.view c.args.device.now).flight (g.D.Writable.view c.perform-result.new.device).flight c.mark.ensures c.perform-result.ensures.in_step
