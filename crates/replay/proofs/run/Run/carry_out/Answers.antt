-- The writes up to the turn, those behind it, and what is left without a turn.
use Rattle.std.proofs.Common.{List, ◌≡◌, false, ◌++◌, Err, inr, refl, sym, ap, ◌∙◌, subst, ◌≤◌}
use Rattle.script_lines.specs.Given.{counted}
use Rattle.commit_writes.specs.InFlight.{AreCurrent}
use Rattle.batch_order.specs.Managed.{live_now}
use Rattle.replay.specs.declared.RunFault.TheVariants as fault
use Rattle.replay.specs.Fates.{IsToCrash, commit_act}
use Rattle.replay.specs.Carried.{IsAt}
use Rattle.replay.specs.Effects.{Effect, Setting}
use Rattle.replay.specs.Running.{AreLeft, Running, progress_of, setting_of}
use Rattle.replay.specs.Unfinished.{IsUnfinished, ResumesTo, StaysInStep}
use Rattle.replay.specs.Outside.{outside}
use Rattle.replay.proofs.between.InStep.{in-step-gone, in-step-then}
use Rattle.replay.proofs.between.Leaving.{leaves-line, leaves-then, uncounted}
use Rattle.replay.proofs.flight.Leftover.{left-gone}
use Rattle.replay.proofs.crash.Over.{carried-over, runs-out}
use Rattle.replay.proofs.run.Run.carry_out.Goals as goal
use Rattle.replay.proofs.run.Run.carry_out.Goals.{in-Some+in-Ok+in-Ok-hand_over, in_default}

pub returns-in-Err-clause-in_step : goal.returns-in-Err-clause-in_step
returns-in-Err-clause-in_step g c = λ not_sink. c.in-Err.ensures.in_step (λ e. not_sink (let same : c.in-Err.fault ≡ fault.Sink = cc in ap Err same))

pub returns-in-Err-hand_over-clause-resumes : goal.returns-in-Err-hand_over-clause-resumes
returns-in-Err-hand_over-clause-resumes g c = λ which before front unfinished at current.
    let slots = (g.D.Writable.view c.args.device.now).slots in
    let mid = c.come_to.new.self in
    let new = c.hand_over.new.self in
    let goes = c.in-Ok.ensures.comes which before front unfinished at current in
    let wants = rw c.in-Ok.ensures.leaves.slots at (c.in-Err-hand_over.ensures.wants before (front ++ goes.more)) in
    rw c.in-Err-hand_over.ensures.others.events
    (runs-out slots before (commit_act c.args.self.now.fate) front mid new (g.D.Writable.view c.args.device.now).events (g.D.Writable.view c.come_to.new.device).events
    (g.D.Writable.view c.come_to.new.device).flight (g.D.Writable.view c.hand_over.new.device).flight _ _ c.in-Err-hand_over.ensures.setting goes
    (rw c.in-Ok.ensures.fate at (wants goes.unfinished)))

pub hand_over-requires-clause-stands : goal.hand_over-requires-clause-stands
hand_over-requires-clause-stands g c = λ crashes. c.in-Ok.ensures.stands (c.requires.stands (subst IsToCrash c.in-Ok.ensures.fate crashes))

pub returns-in-Err-hand_over-clause-kind : goal.returns-in-Err-hand_over-clause-kind
returns-in-Err-hand_over-clause-kind g c = inr (inr (refl, subst IsToCrash c.in-Ok.ensures.fate c.in-Err-hand_over.ensures.kind))

pub complete-requires-clause-slots : goal.complete-requires-clause-slots
complete-requires-clause-slots g c =
    elim c.match-turn_ahead.branch [
      | in-Some+in-Ok+in-Ok-hand_over w ↦
          let same : w.hand_over.new.self.manager.slots ≡ c.args.self.now.manager.slots = ap (λ (setting : Setting). setting.slots) (w.in-Ok-hand_over.ensures.setting ∙ w.in-Ok.ensures.setting) in
          let width : (g.D.Writable.view w.hand_over.new.device).slots ≡ (g.D.Writable.view c.args.device.now).slots = w.in-Ok-hand_over.ensures.others.slots ∙ w.in-Ok.ensures.leaves.slots in
          rw (w.self-is, w.device-is)
          (subst (λ n. n ≤ (g.D.Writable.view w.hand_over.new.device).slots) (sym same) (subst (λ n. c.args.self.now.manager.slots ≤ n) (sym width) c.requires.slots))
      | in_default w ↦ rw (w.self-is, w.device-is) c.requires.slots
    ]

pub complete-requires-clause-in_flight : goal.complete-requires-clause-in_flight
complete-requires-clause-in_flight g c =
    elim c.match-turn_ahead.branch [
      | in-Some+in-Ok+in-Ok-hand_over w ↦
          subst (λ (run : Running). AreLeft run (g.D.Writable.view c.match-turn_ahead.device).flight) (sym w.self-is)
          (subst (λ device. AreLeft w.hand_over.new.self (g.D.Writable.view device).flight) (sym w.device-is)
          (left-gone _ _ w.come_to.new.self w.hand_over.new.self (g.D.Writable.view w.come_to.new.device).flight (g.D.Writable.view w.hand_over.new.device).flight
          w.in-Ok-hand_over.ensures.turned w.in-Ok.ensures.at_turn.held (w.in-Ok.ensures.in_flight (λ e. absurd (cc))) w.in-Ok-hand_over.ensures.others.flight))
      | in_default w ↦
          subst (λ (run : Running). AreLeft run (g.D.Writable.view c.match-turn_ahead.device).flight) (sym w.self-is)
          (subst (λ device. AreLeft c.args.self.now (g.D.Writable.view device).flight) (sym w.device-is) c.requires.in_flight)
    ]

pub returns-clause-resumes : goal.returns-clause-resumes
returns-clause-resumes g c = λ which before front unfinished at current.
    let slots = (g.D.Writable.view c.args.device.now).slots in
    let device = c.match-turn_ahead.device in
    let sink = c.match-turn_ahead.sink in
    let by_self = λ (effects : List Effect) (run : Running) (same : c.match-turn_ahead.self ≡ run).
    subst (λ (one : Running). IsUnfinished (g.D.Writable.view device).slots before effects one → IsAt (g.D.Writable.view device).slots (g.D.Writable.view device).events (progress_of (g.D.Writable.view device).slots one)
    → AreCurrent (live_now one.manager) (g.D.Writable.view device).flight
    → ResumesTo (g.D.Writable.view device).slots before (commit_act one.fate) effects c.complete.new.self c.complete.result
    (outside (g.D.Writable.view device).events (counted which (g.K.Sink.taken sink) (g.K.Sink.accepted sink)))
    (outside (g.D.Writable.view c.complete.new.device).events (counted which (g.K.Sink.taken c.complete.new.sink) (g.K.Sink.accepted c.complete.new.sink))) (g.D.Writable.view c.complete.new.device).flight) same (c.complete.ensures.resumes which before effects) in
    elim c.match-turn_ahead.branch [
      | in-Some+in-Ok+in-Ok-hand_over w ↦
          let came = w.in-Ok.ensures in
          let gone = w.in-Ok-hand_over.ensures in
          let width = came.leaves.slots in
          let goes = came.comes which before front unfinished at current in
          let more = front ++ goes.more in
          let still = (rw width at (gone.unfinished before more)) goes.unfinished in
          let stood : progress_of slots w.hand_over.new.self ≡ progress_of slots w.come_to.new.self = rw width at gone.stands in
          let there : IsAt slots (g.D.Writable.view w.come_to.new.device).events (progress_of slots w.hand_over.new.self) =
          subst (IsAt slots (g.D.Writable.view w.come_to.new.device).events) (sym stood) goes.stands in
          let ends = (rw (w.sink-is, w.device-is, gone.others.slots, width, gone.others.events) at (by_self more w.hand_over.new.self w.self-is)) still there (gone.current goes.current) in
          carried-over c.complete.result slots _ _ before front c.args.self.now w.come_to.new.self w.hand_over.new.self c.complete.new.self (g.D.Writable.view c.args.device.now).events (g.D.Writable.view w.come_to.new.device).events
          (g.D.Writable.view c.complete.new.device).events (g.D.Writable.view w.come_to.new.device).flight (g.D.Writable.view c.complete.new.device).flight _ _ _ w.in-Some.ensures.ahead.0 gone.turned goes ends
      | in_default w ↦ (rw (w.sink-is, w.device-is) at (by_self front c.args.self.now w.self-is)) unfinished at current
    ]

pub returns-clause-setting : goal.returns-clause-setting
returns-clause-setting g c =
    c.complete.ensures.setting ∙ elim c.match-turn_ahead.branch [
      | in-Some+in-Ok+in-Ok-hand_over w ↦ ap setting_of w.self-is ∙ w.in-Ok-hand_over.ensures.setting ∙ w.in-Ok.ensures.setting
      | in_default w ↦ ap setting_of w.self-is
    ]

pub returns-clause-in_step : goal.returns-clause-in_step
returns-clause-in_step g c = λ not_sink.
    let slots = (g.D.Writable.view c.args.device.now).slots in
    let device = c.match-turn_ahead.device in
    let by_self = λ (run : Running) (same : c.match-turn_ahead.self ≡ run).
    subst (λ (one : Running). StaysInStep (g.D.Writable.view device).slots one c.complete.new.self (g.D.Writable.view device).events (g.D.Writable.view c.complete.new.device).events
    (g.D.Writable.view device).flight (g.D.Writable.view c.complete.new.device).flight) same (c.complete.ensures.in_step not_sink) in
    elim c.match-turn_ahead.branch [
      | in-Some+in-Ok+in-Ok-hand_over w ↦
          let came = w.in-Ok.ensures in
          let gone = w.in-Ok-hand_over.ensures in
          let width = came.leaves.slots in
          let mid = w.come_to.new.self in
          let over = w.hand_over.new.self in
          let events = (g.D.Writable.view c.args.device.now).events in
          let flight = (g.D.Writable.view c.args.device.now).flight in
          let events_mid = (g.D.Writable.view w.come_to.new.device).events in
          let flight_mid = (g.D.Writable.view w.come_to.new.device).flight in
          let events_over = (g.D.Writable.view w.hand_over.new.device).events in
          let flight_over = (g.D.Writable.view w.hand_over.new.device).flight in
          let whole : mid.broken ≡ false = came.broken ∙ c.requires.whole in
          let second = in-step-gone slots mid over events_mid events_over flight_mid flight_over (rw width at gone.stands) gone.current gone.others.events in
          let both = in-step-then slots c.args.self.now mid over events events_mid events_over flight flight_mid flight_over (came.in_step (λ e. absurd (cc))) whole second in
          in-step-then slots c.args.self.now over c.complete.new.self events events_over (g.D.Writable.view c.complete.new.device).events flight flight_over (g.D.Writable.view c.complete.new.device).flight
          both (ap (λ (run : Running). run.broken) gone.turned.2 ∙ whole)
          (rw (w.device-is, gone.others.slots, width) at (by_self w.hand_over.new.self w.self-is))
      | in_default w ↦ rw w.device-is at (by_self c.args.self.now w.self-is)
    ]

pub returns-clause-leaves : goal.returns-clause-leaves
returns-clause-leaves g c =
    elim c.match-turn_ahead.branch [
      | in-Some+in-Ok+in-Ok-hand_over w ↦
          let gone = w.in-Ok-hand_over.ensures in
          let sink = w.come_to.new.sink in
          leaves-then _ _ c.args.sink.now sink c.complete.new.sink _ (g.D.Writable.view w.come_to.new.device) _ _ _ _ _ (λ e. absurd (cc)) (λ e. absurd (cc)) w.in-Ok.ensures.leaves
          (leaves-then _ _ sink sink c.complete.new.sink _ (g.D.Writable.view w.hand_over.new.device) _ ⊥ ⊥ _ _ (λ never. never) (λ never. never)
          (leaves-line _ _ sink sink _ _ ⊥ ⊥ (λ some. some) gone.others.slots gone.others.events gone.others.faults (uncounted ⊥ _ _ (λ never. never) refl) (λ never. never))
          (rw (w.sink-is, w.device-is) at c.complete.ensures.leaves))
      | in_default w ↦ rw (w.sink-is, w.device-is) at c.complete.ensures.leaves
    ]
