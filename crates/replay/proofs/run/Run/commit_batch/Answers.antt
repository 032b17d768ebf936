-- What the manager holds is the commit of the batch, and what it refuses is refused by the verdict.
use Rattle.std.proofs.Common.{◌≡◌, true, false, None, refl, sym, ap, subst, ◌∙◌}
use Rattle.settled_changes.specs.declared.requested.Requested.TheVariants.{Nothing}
use Rattle.replay.specs.declared.RunFault.TheVariants as fault
use Rattle.replay.specs.Crashing.{memory_wanted}
use Rattle.replay.specs.declared.ActFault.TheVariants.{Stopped}
use Rattle.replay.specs.Running.{Running, act_outcome_of}
use Rattle.replay.specs.Unfinished.{StaysInStep}
use Rattle.replay.proofs.between.Exits.{refused-acts, taken-acts, taken-run, taken-stays}
use Rattle.replay.proofs.between.InStep.{in-step-kept, in-step-taken, memory_wanted-so}
use Rattle.replay.proofs.between.Leaving.{leaves-as, leaves-line, leaves-then, line-counted, no-write, outcome-fails, outcome-ok, outcome-room, outcome-taken, uncounted}
use Rattle.replay.proofs.between.Refusals.{never-busy}
use Rattle.replay.proofs.flight.Leftover.{left-taken, words-from, words-kept}
use Rattle.replay.proofs.run.Run.commit_batch.Goals as goal

-- what the run holds is what is seen of it
plain-inside : {inside run : Running} → inside ≡ run → run.asked ≡ Nothing → inside.asked ≡ Nothing
plain-inside same plain = ap (λ (run : Running). run.asked) same ∙ plain

pub invariant_of-self : goal.invariant_of-self
invariant_of-self g c =
    let idle = subst (λ (run : Running). run.manager.held ≡ None) (sym c.self.view_is) c.requires.idle in
    taken-run _ c.in-Ok.field-0 c.prepare.new.self c.self.invariant idle (plain-inside c.self.view_is c.requires.strict) c.in-Ok.ensures.ready c.in-Ok.ensures.judged c.args.fate c.requires.first

pub returns-in-Ok-clause-acts : goal.returns-in-Ok-clause-acts
returns-in-Ok-clause-acts g c = λ which.
    let idle = subst (λ (run : Running). run.manager.held ≡ None) (sym c.self.view_is) c.requires.idle in
    rw c.act_outcome.ensures (taken-acts _ c.in-Ok.field-0 c.prepare.new.self c.self.invariant idle (plain-inside c.self.view_is c.requires.strict) c.in-Ok.ensures.ready c.in-Ok.ensures.judged c.args.fate c.requires.first _ c.args.self.now _ c.self.view_is _ _ _ _ (c.prepare.ensures.others.flight ∙ c.requires.none_in_flight) _ _ c.begin.result c.begin.ensures.setting
    c.begin.ensures.kind c.begin.ensures.broken (rw (c.prepare.ensures.others.slots, c.prepare.ensures.others.events) at (c.begin.ensures.resumes which)))

pub returns-in-Ok-clause-unfinished : goal.returns-in-Ok-clause-unfinished
returns-in-Ok-clause-unfinished g c = λ which cut.
    let idle = subst (λ (run : Running). run.manager.held ≡ None) (sym c.self.view_is) c.requires.idle in
    taken-stays _ c.in-Ok.field-0 c.prepare.new.self c.self.invariant idle (plain-inside c.self.view_is c.requires.strict) c.in-Ok.ensures.ready c.in-Ok.ensures.judged c.args.fate c.requires.first _ c.args.self.now _ c.self.view_is _ _ _ _ (c.prepare.ensures.others.flight ∙ c.requires.none_in_flight) _ _ c.begin.result
    (rw (c.prepare.ensures.others.slots, c.prepare.ensures.others.events) at (c.begin.ensures.resumes which)) (outcome-fails c.begin.result fault.Device (sym c.act_outcome.ensures ∙ cut))

pub returns-in-Err-Rejected-clause-acts : goal.returns-in-Err-Rejected-clause-acts
returns-in-Err-Rejected-clause-acts g c = λ which.
    refused-acts c.args.fate c.refuse.result _ _ c.args.self.now c.refuse.new.self c.in-Err-Rejected.rejection _ c.prepare.new.self _ _ _ _ c.self.view_is c.requires.idle c.requires.strict (rw c.in-Err-Rejected.field-0-is at c.in-Err-Rejected.ensures.judged)
    c.in-Err-Rejected.ensures.refused c.prepare.ensures.others.events c.refuse.ensures.refused c.refuse.ensures.kind (c.refuse.ensures.line.whole which) (c.refuse.ensures.line.part which) (rw c.in-Err-Rejected.field-0-is refl)

pub returns-in-Err-Rejected-clause-leaves : goal.returns-in-Err-Rejected-clause-leaves
returns-in-Err-Rejected-clause-leaves g c =
    let line = c.refuse.ensures.line in
    leaves-line _ _ _ _ _ _ _ _ line.told c.prepare.ensures.others.slots c.prepare.ensures.others.events c.prepare.ensures.others.faults
    (line-counted c.refuse.result _ _ c.refuse.ensures.kind line.cause) (no-write c.refuse.result c.refuse.ensures.kind)

pub begin-requires-clause-told : goal.begin-requires-clause-told
begin-requires-clause-told g c = λ json. c.requires.told (ap (λ (run : Running). run.json) (sym c.self.view_is) ∙ json)

pub begin-requires-clause-in_flight : goal.begin-requires-clause-in_flight
begin-requires-clause-in_flight g c =
    let idle = subst (λ (run : Running). run.manager.held ≡ None) (sym c.self.view_is) c.requires.idle in
    left-taken _ c.prepare.new.self c.args.fate _ c.self.invariant idle (c.prepare.ensures.others.flight ∙ c.requires.none_in_flight)

pub returns-in-Ok-clause-in_flight : goal.returns-in-Ok-clause-in_flight
returns-in-Ok-clause-in_flight g c = rw c.act_outcome.ensures (words-from c.begin.new.self (act_outcome_of c.begin.result) (g.D.Writable.view c.prepare.new.device).flight (g.D.Writable.view c.args.device.now).flight (g.D.Writable.view c.begin.new.device).flight c.prepare.ensures.others.flight c.begin.ensures.in_flight)

pub returns-in-Err-Rejected-clause-in_flight : goal.returns-in-Err-Rejected-clause-in_flight
returns-in-Err-Rejected-clause-in_flight g c = words-kept c.refuse.new.self c.refuse.result (g.D.Writable.view c.args.device.now).flight (g.D.Writable.view c.prepare.new.device).flight c.prepare.ensures.others.flight c.requires.none_in_flight (no-write c.refuse.result c.refuse.ensures.kind)

pub returns-in-Ok-clause-broken : goal.returns-in-Ok-clause-broken
returns-in-Ok-clause-broken g c = rw c.act_outcome.ensures (memory_wanted-so c.args.fate c.begin.result c.begin.new.self.broken c.begin.ensures.broken c.begin.ensures.kind)

pub returns-in-Ok-clause-in_step : goal.returns-in-Ok-clause-in_step
returns-in-Ok-clause-in_step g c = λ not_sink.
    let slots = (g.D.Writable.view c.args.device.now).slots in
    let events = (g.D.Writable.view c.args.device.now).events in
    let flight = (g.D.Writable.view c.args.device.now).flight in
    let new = c.begin.new.self in
    let events_new = (g.D.Writable.view c.begin.new.device).events in
    let flight_new = (g.D.Writable.view c.begin.new.device).flight in
    subst (λ (run : Running). StaysInStep slots run new events events_new flight flight_new) c.self.view_is
    (in-step-taken slots _ c.self.invariant c.prepare.new.self c.args.fate new c.in-Ok.field-0 events events_new flight (g.D.Writable.view c.prepare.new.device).flight flight_new c.in-Ok.ensures.ready
    (c.prepare.ensures.others.flight ∙ c.requires.none_in_flight) (rw (c.prepare.ensures.others.slots, c.prepare.ensures.others.events) at (c.begin.ensures.in_step (λ sink. not_sink (c.act_outcome.ensures ∙ ap act_outcome_of sink)))))

pub returns-in-Err-Rejected-clause-in_step : goal.returns-in-Err-Rejected-clause-in_step
returns-in-Err-Rejected-clause-in_step g c = λ not_sink.
    rw (c.prepare.ensures.others.events, c.prepare.ensures.others.flight)
    (in-step-kept (g.D.Writable.view c.args.device.now).slots c.args.self.now c.refuse.new.self (g.D.Writable.view c.args.device.now).events (g.D.Writable.view c.args.device.now).flight
    (ap (λ (run : Running). run.manager) c.refuse.ensures.refused ∙ c.in-Err-Rejected.ensures.refused ∙ ap (λ (run : Running). run.manager) c.self.view_is))

pub returns-in-Ok-clause-taken : goal.returns-in-Ok-clause-taken
returns-in-Ok-clause-taken g c = rw c.act_outcome.ensures (outcome-taken c.begin.result)

pub returns-in-Ok-clause-limit : goal.returns-in-Ok-clause-limit
returns-in-Ok-clause-limit g c = rw c.act_outcome.ensures (outcome-room c.begin.result)

pub returns-in-Ok-clause-idle : goal.returns-in-Ok-clause-idle
returns-in-Ok-clause-idle g c = rw c.act_outcome.ensures (outcome-ok _ c.begin.result c.begin.ensures.idle)

pub returns-in-Ok-clause-leaves : goal.returns-in-Ok-clause-leaves
returns-in-Ok-clause-leaves g c =
    rw c.act_outcome.ensures (leaves-as _ _ _ _ _ _ _ _ _ _
    (outcome-fails c.begin.result fault.Sink) (ap act_outcome_of) (outcome-fails c.begin.result fault.Device) (ap act_outcome_of)
    (leaves-then _ _ c.args.sink.now c.args.sink.now c.begin.new.sink _ (g.D.Writable.view c.prepare.new.device) _ ⊥ ⊥ _ _ (λ never. never) (λ never. never)
    (leaves-line _ _ c.args.sink.now c.args.sink.now _ _ ⊥ ⊥ (λ some. some) c.prepare.ensures.others.slots c.prepare.ensures.others.events c.prepare.ensures.others.faults
    (uncounted ⊥ _ _ (λ never. never) refl) (λ never. never))
    c.begin.ensures.leaves))

pub unreachable-requires : goal.unreachable-requires
unreachable-requires g c =
    let inside = c.self.inside in
    let idle = ap (λ (run : Running). run.manager.held) c.self.view_is ∙ c.requires.idle in
    never-busy _ _ (rw (c.in-Err-Busy.field-0-is, idle) at c.in-Err-Busy.ensures.judged)

-- memory is wanting behind the first write only where a manager was lost, and a refusal wants none
pub returns-in-Ok-clause-kept : goal.returns-in-Ok-clause-kept
returns-in-Ok-clause-kept g c = λ wants whole.
    let failed = outcome-fails c.begin.result fault.Memory (sym c.act_outcome.ensures ∙ wants) in
    absurd (let bad : true ≡ false = sym (c.begin.ensures.broken ∙ ap memory_wanted failed) ∙ whole in cc)

pub returns-in-Err-Rejected-clause-kept : goal.returns-in-Err-Rejected-clause-kept
returns-in-Err-Rejected-clause-kept g c = λ wants whole.
    absurd (let bad : Stopped fault.Memory ≡ Stopped fault.Sink = rw wants at c.refuse.ensures.kind in cc)
