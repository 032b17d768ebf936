-- A change that joins what is pending, a whole new set that is begun, and a key that is probed.
use Rattle.std.proofs.Common.{refl, ◌++◌, ◌∷◌, []}
use Rattle.settled_changes.specs.declared.requested.Requested.TheVariants.{Whole}
use Rattle.settled_changes.specs.Requested.{asked_behind, asked_with, batch_behind, batch_with}
use Rattle.replay.proofs.between.Acts.{ask-acts, push-acts, probe-acts, whole-acts}
use Rattle.replay.proofs.between.InStep.{in-step-kept, kept-manager}
use Rattle.replay.proofs.between.Leaving.{leaves-line, line-counted, no-fault, no-write, uncounted}
use Rattle.replay.proofs.flight.Leftover.{words-kept}
use Rattle.replay.proofs.run.Run.perform.Goals as goal

pub returns-in-Command-clause-acts : goal.returns-in-Command-clause-acts
returns-in-Command-clause-acts g c = λ which.
    push-acts c.push.result _ c.args.self.now c.push.new.self c.args.act.now c.in-Command.command (g.D.Writable.view c.args.device.now).events _ c.in-Command.is c.push.ensures.pushed c.push.ensures.unchanged c.push.ensures.kind

pub returns-in-Probe-clause-acts : goal.returns-in-Probe-clause-acts
returns-in-Probe-clause-acts g c = λ which.
    probe-acts c.probe.result _ c.args.self.now c.probe.new.self c.args.act.now c.in-Probe.key (g.D.Writable.view c.args.device.now).events _ c.in-Probe.is c.probe.ensures.probed c.probe.ensures.unchanged c.probe.ensures.kind

pub returns-in-Command-clause-leaves : goal.returns-in-Command-clause-leaves
returns-in-Command-clause-leaves g c =
    let never = no-fault c.push.result c.push.ensures.kind in
    leaves-line _ _ _ _ _ _ _ _ (λ some. some) refl refl refl (uncounted _ _ _ never.0 refl) never.1

pub returns-in-Packet-clause-leaves : goal.returns-in-Packet-clause-leaves
returns-in-Packet-clause-leaves g c =
    leaves-line _ _ _ _ _ _ _ _ c.packet.ensures.told refl refl refl (line-counted c.packet.result _ _ c.packet.ensures.kind c.packet.ensures.cause) (no-write c.packet.result c.packet.ensures.kind)

pub returns-in-Command-clause-in_flight : goal.returns-in-Command-clause-in_flight
returns-in-Command-clause-in_flight g c = words-kept c.push.new.self c.push.result (g.D.Writable.view c.args.device.now).flight (g.D.Writable.view c.args.device.now).flight refl c.requires.none_in_flight (no-fault c.push.result c.push.ensures.kind).1

pub returns-in-Packet-clause-in_flight : goal.returns-in-Packet-clause-in_flight
returns-in-Packet-clause-in_flight g c = words-kept c.args.self.now c.packet.result (g.D.Writable.view c.args.device.now).flight (g.D.Writable.view c.args.device.now).flight refl c.requires.none_in_flight (no-write c.packet.result c.packet.ensures.kind)

pub returns-in-Command-clause-in_step : goal.returns-in-Command-clause-in_step
returns-in-Command-clause-in_step g c = λ not_sink.
    in-step-kept (g.D.Writable.view c.args.device.now).slots c.args.self.now c.push.new.self (g.D.Writable.view c.args.device.now).events (g.D.Writable.view c.args.device.now).flight
    (kept-manager c.push.result c.args.self.now (record c.args.self.now { pending = batch_with c.args.self.now.pending c.args.self.now.asked c.in-Command.command; asked = asked_with c.args.self.now.asked c.in-Command.command }) c.push.new.self refl c.push.ensures.pushed c.push.ensures.unchanged)

pub returns-in-Probe-clause-in_step : goal.returns-in-Probe-clause-in_step
returns-in-Probe-clause-in_step g c = λ not_sink.
    in-step-kept (g.D.Writable.view c.args.device.now).slots c.args.self.now c.probe.new.self (g.D.Writable.view c.args.device.now).events (g.D.Writable.view c.args.device.now).flight
    (kept-manager c.probe.result c.args.self.now (record c.args.self.now { probes = c.args.self.now.probes ++ c.in-Probe.key ∷ [] }) c.probe.new.self refl c.probe.ensures.probed c.probe.ensures.unchanged)

pub returns-in-Packet-clause-in_step : goal.returns-in-Packet-clause-in_step
returns-in-Packet-clause-in_step g c = λ not_sink. in-step-kept (g.D.Writable.view c.args.device.now).slots c.args.self.now c.args.self.now (g.D.Writable.view c.args.device.now).events (g.D.Writable.view c.args.device.now).flight refl

pub returns-in-Ask-clause-acts : goal.returns-in-Ask-clause-acts
returns-in-Ask-clause-acts g c = λ which.
    ask-acts c.ask.result _ c.args.self.now c.ask.new.self c.args.act.now c.in-Ask.request (g.D.Writable.view c.args.device.now).events _ c.in-Ask.is c.ask.ensures.asked c.ask.ensures.unchanged c.ask.ensures.kind

pub returns-in-Ask-clause-leaves : goal.returns-in-Ask-clause-leaves
returns-in-Ask-clause-leaves g c =
    let never = no-fault c.ask.result c.ask.ensures.kind in
    leaves-line _ _ _ _ _ _ _ _ (λ some. some) refl refl refl (uncounted _ _ _ never.0 refl) never.1

pub returns-in-Ask-clause-in_flight : goal.returns-in-Ask-clause-in_flight
returns-in-Ask-clause-in_flight g c = words-kept c.ask.new.self c.ask.result (g.D.Writable.view c.args.device.now).flight (g.D.Writable.view c.args.device.now).flight refl c.requires.none_in_flight (no-fault c.ask.result c.ask.ensures.kind).1

pub returns-in-Ask-clause-in_step : goal.returns-in-Ask-clause-in_step
returns-in-Ask-clause-in_step g c = λ not_sink.
    in-step-kept (g.D.Writable.view c.args.device.now).slots c.args.self.now c.ask.new.self (g.D.Writable.view c.args.device.now).events (g.D.Writable.view c.args.device.now).flight
    (kept-manager c.ask.result c.args.self.now (record c.args.self.now { pending = batch_behind c.args.self.now.pending c.args.self.now.asked; asked = asked_behind c.args.self.now.pending c.args.self.now.asked c.in-Ask.request }) c.ask.new.self refl c.ask.ensures.asked c.ask.ensures.unchanged)

pub returns-in-All-clause-acts : goal.returns-in-All-clause-acts
returns-in-All-clause-acts g c = λ which.
    whole-acts c.begin_whole.result _ c.args.self.now c.begin_whole.new.self c.args.act.now (g.D.Writable.view c.args.device.now).events _ c.in-All.is c.begin_whole.ensures.begun c.begin_whole.ensures.unchanged c.begin_whole.ensures.kind

pub returns-in-All-clause-in_step : goal.returns-in-All-clause-in_step
returns-in-All-clause-in_step g c = λ not_sink.
    in-step-kept (g.D.Writable.view c.args.device.now).slots c.args.self.now c.begin_whole.new.self (g.D.Writable.view c.args.device.now).events (g.D.Writable.view c.args.device.now).flight
    (kept-manager c.begin_whole.result c.args.self.now (record c.args.self.now { pending = []; asked = Whole [] }) c.begin_whole.new.self refl c.begin_whole.ensures.begun c.begin_whole.ensures.unchanged)
