use Rattle.std.proofs.Common.{◌≡◌, [], append-nil, sym, ◌∙◌, ap, subst, None}
use Rattle.tcam_device.specs.State.{State, on_device}
use Rattle.tcam_device.specs.Flight.{Flight, search_answer}
use Rattle.commit_writes.specs.InFlight.{AreCurrent}
use Rattle.batch_order.specs.Managed.{live_now}
use Rattle.batch_order.specs.Steps.{actions_of}
use Rattle.lookup_turns.specs.declared.Turn.{Turn}
use Rattle.lookup_turns.specs.declared.Turn.TheVariants.{Search}
use Rattle.lookup_turns.specs.Turns.{Outcome, TakesTurn, translated}
use Rattle.lookup_turns.proofs.Turned.{step_current, search_seen, translate_current}
use Rattle.lookup_turns.proofs.turns.turn_once.Goals as goal

pub returns-in_ok-step-in-Step-clause-turned : goal.returns-in_ok-step-in-Step-clause-turned
returns-in_ok-step-in-Step-clause-turned g c =
    let old = c.args.manager.now in
    let new = c.step.new.self in
    let made = c.in_ok-step-in-Step.field-0 in
    let flight = (g.D.Writable.view c.args.device.now).flight in
    record {
      actions = actions_of made;
      turned =
          subst (λ (t : Turn). TakesTurn (g.D.Writable.view c.args.device.now).slots old flight t (record { answered = None; actions = actions_of made; manager = new; flight = (g.D.Writable.view c.step.new.device).flight }))
          (sym c.in-Step.is) (made, new, c.in_ok-step-in-Step.ensures.stepped, ap (λ (f : Flight). let left : Outcome = record { answered = None; actions = actions_of made; manager = new; flight = f } in left) c.in_ok-step-in-Step.ensures.made.flight);
      events = c.in_ok-step-in-Step.ensures.made.events;
      slots = c.in_ok-step-in-Step.ensures.made.slots;
    }

pub returns-in_ok-step-in-Step-clause-current : goal.returns-in_ok-step-in-Step-clause-current
returns-in_ok-step-in-Step-clause-current g c =
    let did = c.in_ok-step-in-Step.ensures in
    subst (AreCurrent (live_now c.step.new.self)) (sym did.made.flight)
    (step_current c.args.manager.now c.in_ok-step-in-Step.field-0 c.step.new.self (g.D.Writable.view c.args.device.now).flight did.keeps did.stepped c.requires.current)

pub returns-in-Translate-clause-turned : goal.returns-in-Translate-clause-turned
returns-in-Translate-clause-turned g c =
    let manager = c.args.manager.now in
    let slots = (g.D.Writable.view c.args.device.now).slots in
    let flight = (g.D.Writable.view c.args.device.now).flight in
    let did : (g.D.Writable.view c.translate.new.device).flight ≡ translated (on_device slots manager.state) c.in-Translate.key flight =
    c.translate.ensures.flight ∙ ap (λ (s : State). translated s c.in-Translate.key flight) (sym c.requires.on) in
    record {
      actions = [];
      turned =
          subst (λ (t : Turn). TakesTurn slots manager flight t (record { answered = None; actions = []; manager = manager; flight = (g.D.Writable.view c.translate.new.device).flight }))
          (sym c.in-Translate.is) (ap (λ (f : Flight). let left : Outcome = record { answered = None; actions = []; manager = manager; flight = f } in left) did);
      events = c.translate.ensures.others.events ∙ sym (append-nil (g.D.Writable.view c.args.device.now).events);
      slots = c.translate.ensures.others.slots;
    }

pub returns-in-Translate-clause-current : goal.returns-in-Translate-clause-current
returns-in-Translate-clause-current g c =
    let manager = c.args.manager.now in
    let slots = (g.D.Writable.view c.args.device.now).slots in
    let flight = (g.D.Writable.view c.args.device.now).flight in
    let did : (g.D.Writable.view c.translate.new.device).flight ≡ translated (on_device slots manager.state) c.in-Translate.key flight =
    c.translate.ensures.flight ∙ ap (λ (s : State). translated s c.in-Translate.key flight) (sym c.requires.on) in
    subst (AreCurrent (live_now manager)) (sym did)
    (translate_current (live_now manager) (on_device slots manager.state) c.in-Translate.key flight (c.serving.ensures.now slots c.requires.slots) c.translate.ensures.valid c.requires.current)

pub returns-in-Search-clause-turned : goal.returns-in-Search-clause-turned
returns-in-Search-clause-turned g c =
    let manager = c.args.manager.now in
    let slots = (g.D.Writable.view c.args.device.now).slots in
    let flight = (g.D.Writable.view c.args.device.now).flight in
    let found : c.search.result ≡ search_answer (on_device slots manager.state) flight =
    c.search.ensures.answer ∙ ap (λ (s : State). search_answer s flight) (sym c.requires.on) in
    let seen = search_seen slots manager flight c.search.result (c.serving.ensures.serves slots c.requires.slots) (c.serving.ensures.now slots c.requires.slots) c.requires.current found in
    record {
      actions = [];
      turned =
          subst (λ (t : Turn). TakesTurn slots manager flight t (record { answered = c.search.result; actions = []; manager = manager; flight = (g.D.Writable.view c.search.new.self).flight }))
          (sym c.in-Search.is) (subst (λ (f : Flight). TakesTurn slots manager flight Search (record { answered = c.search.result; actions = []; manager = manager; flight = f })) (sym c.search.ensures.flight) seen);
      events = c.search.ensures.others.events ∙ sym (append-nil (g.D.Writable.view c.args.device.now).events);
      slots = c.search.ensures.others.slots;
    }
