use Rattle.std.proofs.Common.{◌≡◌, ◌+◌, ℕ, List, length, Option, None, sym, ◌∙◌, ap, ap₂, subst}
use Rattle.rule_model.specs.RuleSet.{Answer}
use Rattle.commit_writes.specs.InFlight.{AreCurrent}
use Rattle.commit_writes.proofs.Current.{are_current_less}
use Rattle.batch_order.specs.Managed.{live_now}
use Rattle.split_device.specs.declared.SplitAction.{SplitAction}
use Rattle.split_device.specs.Flight.{Flight, flight_count, oldest_read, state_of_events, with_read, with_search}
use Rattle.split_order.specs.Left.{ServesSplit, left_of, state_on}
use Rattle.split_order.specs.Managed.{SplitManaged}
use Rattle.split_order.specs.Next.{LeadsDevice}
use Rattle.split_order.proofs.Live.{step_current}
use Rattle.split_turns.specs.declared.SplitTurn.{SplitTurn}
use Rattle.split_turns.specs.declared.SplitTurn.TheVariants.{Step, Translate, Search, Read}
use Rattle.split_turns.specs.Seen.{TurnsOn}
use Rattle.split_turns.specs.Turns.{translated}
use Rattle.split_turns.proofs.Turned.{read_turned, search_turned, step_turned, steps_slots, translate_current, translate_turned}
use Rattle.split_turns.proofs.turns.turn_once.Goals as goal

pub returns-in_ok-step-in-Step-clause-turned : goal.returns-in_ok-step-in-Step-clause-turned
returns-in_ok-step-in-Step-clause-turned g c =
    let old : SplitManaged = c.args.manager.now in
    let new : SplitManaged = c.step.new.self in
    let slots = g.D.SplitDevice.slot_count c.args.device.now in
    let flight = g.D.SplitDevice.flight c.args.device.now in
    let did = c.in_ok-step-in-Step.ensures in
    let led : LeadsDevice slots (g.D.SplitDevice.events c.step.new.device) new =
    subst (λ n. LeadsDevice n (g.D.SplitDevice.events c.step.new.device) new) c.step.ensures.slot_count (c.step.ensures.led c.requires.on) in
    let serves : ServesSplit (state_on slots new) new = subst (λ some. ServesSplit (state_of_events slots some) new) led.on led.serves in
    subst (λ (t : SplitTurn). TurnsOn slots old flight t None new (g.D.SplitDevice.flight c.step.new.device)) (sym c.in-Step.is)
    (subst (λ (f : Flight). TurnsOn slots old flight Step None new f) (sym c.step.ensures.flight)
    (step_turned slots old new flight c.in_ok-step-in-Step.field-0 did.stepped (c.serving.ensures.timely slots c.requires.slots) serves))

pub returns-in_ok-step-in-Step-clause-slots : goal.returns-in_ok-step-in-Step-clause-slots
returns-in_ok-step-in-Step-clause-slots g c =
    let old : SplitManaged = c.args.manager.now in
    let slots = g.D.SplitDevice.slot_count c.args.device.now in
    let flight = g.D.SplitDevice.flight c.args.device.now in
    let same = steps_slots slots old (flight_count flight) (left_of slots old) c.in_ok-step-in-Step.field-0 c.step.new.self c.in_ok-step-in-Step.ensures.stepped in
    rw (same, c.step.ensures.slot_count) c.requires.slots

pub returns-in_ok-step-in-Step-clause-on : goal.returns-in_ok-step-in-Step-clause-on
returns-in_ok-step-in-Step-clause-on g c = (c.step.ensures.led c.requires.on).on

pub returns-in_ok-step-in-Step-clause-current : goal.returns-in_ok-step-in-Step-clause-current
returns-in_ok-step-in-Step-clause-current g c =
    let old : SplitManaged = c.args.manager.now in
    let new : SplitManaged = c.step.new.self in
    let slots = g.D.SplitDevice.slot_count c.args.device.now in
    let flight = g.D.SplitDevice.flight c.args.device.now in
    let did = c.in_ok-step-in-Step.ensures in
    subst (λ (f : Flight). AreCurrent (live_now new.whole) f.words) (sym c.step.ensures.flight)
    (step_current slots old flight (left_of slots old) c.in_ok-step-in-Step.field-0 new did.current did.stepped c.requires.current)

pub returns-in-Translate-clause-turned : goal.returns-in-Translate-clause-turned
returns-in-Translate-clause-turned g c =
    let manager : SplitManaged = c.args.manager.now in
    let slots = g.D.SplitDevice.slot_count c.args.device.now in
    let flight = g.D.SplitDevice.flight c.args.device.now in
    let did : g.D.SplitDevice.flight c.translate.new.device ≡ translated (state_on slots manager) c.in-Translate.key flight =
    c.translate.ensures.flight ∙ ap (λ some. translated (state_of_events slots some) c.in-Translate.key flight) c.requires.on in
    subst (λ (t : SplitTurn). TurnsOn slots manager flight t None manager (g.D.SplitDevice.flight c.translate.new.device)) (sym c.in-Translate.is)
    (subst (λ (f : Flight). TurnsOn slots manager flight (Translate c.in-Translate.key) None manager f) (sym did) (translate_turned slots manager c.in-Translate.key flight))

pub returns-in-Translate-clause-current : goal.returns-in-Translate-clause-current
returns-in-Translate-clause-current g c =
    let manager : SplitManaged = c.args.manager.now in
    let slots = g.D.SplitDevice.slot_count c.args.device.now in
    let flight = g.D.SplitDevice.flight c.args.device.now in
    let did : g.D.SplitDevice.flight c.translate.new.device ≡ translated (state_on slots manager) c.in-Translate.key flight =
    c.translate.ensures.flight ∙ ap (λ some. translated (state_of_events slots some) c.in-Translate.key flight) c.requires.on in
    subst (λ (f : Flight). AreCurrent (live_now manager.whole) f.words) (sym did)
    (translate_current (live_now manager.whole) (state_on slots manager) c.in-Translate.key flight (c.serving.ensures.live slots c.requires.slots) c.translate.ensures.valid c.requires.current)

pub returns-in-Search-clause-turned : goal.returns-in-Search-clause-turned
returns-in-Search-clause-turned g c =
    let manager : SplitManaged = c.args.manager.now in
    let slots = g.D.SplitDevice.slot_count c.args.device.now in
    let flight = g.D.SplitDevice.flight c.args.device.now in
    let did : g.D.SplitDevice.flight c.search-found.new.self ≡ with_search (state_on slots manager) flight =
    c.search-found.ensures.flight ∙ ap (λ some. with_search (state_of_events slots some) flight) c.requires.on in
    subst (λ (t : SplitTurn). TurnsOn slots manager flight t None manager (g.D.SplitDevice.flight c.search-found.new.self)) (sym c.in-Search.is)
    (subst (λ (f : Flight). TurnsOn slots manager flight Search None manager f) (sym did)
    (search_turned slots manager flight (c.serving.ensures.serves slots c.requires.slots) (c.serving.ensures.live slots c.requires.slots) c.requires.current))

pub returns-in-Search-clause-current : goal.returns-in-Search-clause-current
returns-in-Search-clause-current g c =
    let manager : SplitManaged = c.args.manager.now in
    let flight = g.D.SplitDevice.flight c.args.device.now in
    subst (λ (f : Flight). AreCurrent (live_now manager.whole) f.words) (sym c.search-found.ensures.flight) (are_current_less (live_now manager.whole) flight.words c.requires.current)

pub returns-in-Read-clause-turned : goal.returns-in-Read-clause-turned
returns-in-Read-clause-turned g c =
    let manager : SplitManaged = c.args.manager.now in
    let slots = g.D.SplitDevice.slot_count c.args.device.now in
    let flight = g.D.SplitDevice.flight c.args.device.now in
    let answer : c.read.result ≡ oldest_read (state_on slots manager) flight.found =
    c.read.ensures.answer ∙ ap (λ some. oldest_read (state_of_events slots some) flight.found) c.requires.on in
    subst (λ (t : SplitTurn). TurnsOn slots manager flight t c.read.result manager (g.D.SplitDevice.flight c.read.new.self)) (sym c.in-Read.is)
    (subst (λ (f : Flight). TurnsOn slots manager flight Read c.read.result manager f) (sym c.read.ensures.flight)
    (subst (λ (a : Option Answer). TurnsOn slots manager flight Read a manager (with_read flight)) (sym answer) (read_turned slots manager flight)))

pub returns-in-Read-clause-current : goal.returns-in-Read-clause-current
returns-in-Read-clause-current g c =
    let manager : SplitManaged = c.args.manager.now in
    subst (λ (f : Flight). AreCurrent (live_now manager.whole) f.words) (sym c.read.ensures.flight) c.requires.current

pub returns-in-Translate-clause-spare : goal.returns-in-Translate-clause-spare
returns-in-Translate-clause-spare g c =
    ap₂ (λ (spare : ℕ) (events : List SplitAction). spare + length events) c.translate.ensures.spare c.translate.ensures.events

pub returns-in-Search-clause-spare : goal.returns-in-Search-clause-spare
returns-in-Search-clause-spare g c =
    ap₂ (λ (spare : ℕ) (events : List SplitAction). spare + length events) c.search-found.ensures.spare c.search-found.ensures.events

pub returns-in-Read-clause-spare : goal.returns-in-Read-clause-spare
returns-in-Read-clause-spare g c =
    ap₂ (λ (spare : ℕ) (events : List SplitAction). spare + length events) c.read.ensures.spare c.read.ensures.events
