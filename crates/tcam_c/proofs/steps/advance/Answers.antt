use Rattle.std.proofs.Common.{◌≡◌, List, ◌++◌, length, sym, ap, subst, ◌∙◌}
use Rattle.tcam_device.specs.declared.Action.{Action}
use Rattle.tcam_device.specs.State.{replay}
use Rattle.tcam_device.specs.Flight.{writes_in}
use Rattle.batch_order.specs.Managed.{IsOn, Serves}
use Rattle.tcam_c.proofs.Due.{never_failed, never_rose}
use Rattle.tcam_c.proofs.Ways.{keeps_words, step_made}
use Rattle.tcam_c.proofs.steps.advance.Goals as goal

pub unreachable-requires : goal.unreachable-requires
unreachable-requires c =
    let before = c.hardware-before.ensures.put in
    let after = c.hardware-after.ensures.put in
    never_rose _ _ (before.faults_are ∙ never_failed _ _ before.calls _ before.are_calls) (after.faults_are ∙ never_failed _ _ after.calls _ after.are_calls) c.in-Err.ensures.cause.failed

pub returns-clause-stepped : goal.returns-clause-stepped
returns-clause-stepped c = (step_made _ _ _ _ _ (ap length c.requires.still) c.in-Ok.ensures.stepped).1

pub returns-clause-keeps : goal.returns-clause-keeps
returns-clause-keeps c =
    let did = c.in-Ok.ensures in
    keeps_words _ _ _ _ (step_made _ _ _ _ _ (ap length c.requires.still) did.stepped).0 did.keeps

pub returns-clause-events : goal.returns-clause-events
returns-clause-events c =
    let did = c.in-Ok.ensures in
    did.made.events ∙ ap (λ (actions : List Action). c.args.device.now.events ++ actions) (step_made _ _ _ _ _ (ap length c.requires.still) did.stepped).0

pub returns-clause-back : goal.returns-clause-back
returns-clause-back c = c.step-step.ensures.way_back

pub returns-clause-slots : goal.returns-clause-slots
returns-clause-slots c =
    let did = c.in-Ok.ensures in
    did.made.slots ∙ c.requires.slots ∙ sym c.step-step.ensures.leaves.slots

pub returns-clause-on : goal.returns-clause-on
returns-clause-on c =
    let did = c.in-Ok.ensures in
    let m = c.step-step.new.self in
    let slots : c.step-step.new.device.slots ≡ m.slots = did.made.slots ∙ c.requires.slots ∙ sym c.step-step.ensures.leaves.slots in
    subst (λ n. IsOn n (writes_in c.step-step.new.device.events) m) slots
    (c.step-step.ensures.stays_on (subst (λ n. IsOn n (writes_in c.args.device.now.events) c.args.manager.now) (sym c.requires.slots) c.requires.on))

pub returns-clause-room : goal.returns-clause-room
returns-clause-room c =
    c.step-step.ensures.leaves.both_ways c.requires.room

pub returns-clause-serves : goal.returns-clause-serves
returns-clause-serves c =
    let did = c.in-Ok.ensures in
    let m = c.step-step.new.self in
    let slots : c.step-step.new.device.slots ≡ m.slots = did.made.slots ∙ c.requires.slots ∙ sym c.step-step.ensures.leaves.slots in
    subst (λ n. Serves (replay n (writes_in c.step-step.new.device.events)) m.rules m.held) slots
    (c.step-step.ensures.serves (subst (λ n. IsOn n (writes_in c.args.device.now.events) c.args.manager.now) (sym c.requires.slots) c.requires.on))
