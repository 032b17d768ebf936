use Rattle.std.proofs.Common.{◌≡◌, ◌≤◌, ◌∙◌, arith, le_refl, length, subst, sym}
use Rattle.split_order.specs.Left.{left_of}
use Rattle.tcam_c.proofs.Due.{never_rose}
use Rattle.tcam_c.proofs.Parts.{never_failed, passes_to, unsettled_on}
use Rattle.tcam_c.proofs.part_steps.advance.Goals as goal

pub unreachable-requires : goal.unreachable-requires
unreachable-requires c =
    let before = c.hardware-before.ensures.put in
    let after = c.hardware-after.ensures.put in
    never_rose _ _ (before.faults_are ∙ never_failed _ _ before.calls _ before.are_calls) (after.faults_are ∙ never_failed _ _ after.calls _ after.are_calls) c.in-Err.ensures.cause.failed

pub step-step-requires-clause-slots : goal.step-step-requires-clause-slots
step-step-requires-clause-slots c =
    let same : c.args.device.now.slots ≡ c.args.manager.now.whole.slots = c.requires.same_slots in
    omega arith

pub step-step-requires-clause-room : goal.step-step-requires-clause-room
step-step-requires-clause-room c =
    let d = c.args.device.now in
    subst (λ n. length (left_of n c.args.manager.now) ≤ d.spare) (sym c.requires.same_slots) c.requires.room

pub returns-clause-passed : goal.returns-clause-passed
returns-clause-passed c =
    let d = c.args.device.now in
    passes_to c.args.manager.now c.step-step.new.self _ d.slots d.spare d.events d.flight c.requires c.in-Ok.ensures.stepped c.in-Ok.ensures.current

pub returns-clause-driven : goal.returns-clause-driven
returns-clause-driven c =
    let d = c.args.device.now in
    let n = c.step-step.new.device in
    unsettled_on c.args.manager.now c.step-step.new.self _ d.slots n.slots d.spare d.events n.events d.flight n.flight c.requires c.in-Ok.ensures.stepped c.step-step.ensures.slot_count c.in-Ok.ensures.events
    c.step-step.ensures.flight n.spare c.step-step.ensures.room

pub returns-clause-serves : goal.returns-clause-serves
returns-clause-serves c = c.serving.ensures.serves c.step-step.new.self.whole.slots (le_refl _)
