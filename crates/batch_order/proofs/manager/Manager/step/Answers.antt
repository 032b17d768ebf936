use Rattle.std.proofs.Common.{◌≡◌, ◌≤◌, Some, IfSome, Result, Ok, Err, OnErr, length, refl, arith}
use Rattle.tcam_device.specs.State.{apply}
use Rattle.tcam_device.specs.declared.Action.TheVariants.{Written}
use Rattle.tcam_device.specs.View.{DeviceView, HasMade, IsUntouched, device_state, journal}
use Rattle.std.specs.Prelude.{[], ◌∷◌}
use Rattle.batch_order.specs.Managed.{Managed, IsOn, Serves}
use Rattle.batch_order.specs.Steps.{Steps, actions_of, next_of}
use Rattle.batch_order.proofs.Leaving.{same_leaves, step_leaves}
use Rattle.batch_order.proofs.Made.{journal_made, journal_same}
use Rattle.batch_order.proofs.under_way.Carried.{on_same, on_written}
use Rattle.batch_order.proofs.back.Passed.{steps_keep_way_back}
use Rattle.batch_order.proofs.under_way.Stepped.{made_state, same_slots}
use Rattle.batch_order.proofs.back.Turned.{steps_keep_current}
use Rattle.batch_order.proofs.served.Ahead.{by_journal, ahead_by_journal}
use Rattle.batch_order.proofs.manager.Manager.step.Given.{Over}
use Rattle.batch_order.proofs.manager.Manager.step.Goals as goal

on_any_err : {T E : Type 0} (result : Result T E) (P : Type 0) → P → OnErr result P
on_any_err (Ok x) P p = tt
on_any_err (Err e) P p = p

-- what the step with a write did
wrote_step : (g : Over) (c : goal.After-serving-in-Some g) → Steps c.args.self.now (length (g.D.Writable.view c.args.device.now).flight) c.args.self.now.held c.advance-step.result c.advance-step.new.self
wrote_step g c = c.advance-step.ensures.stepped (length (g.D.Writable.view c.args.device.now).flight)

-- the device is the manager's after it,
on_after_write : (g : Over) (c : goal.After-serving-in-Some g) → IsOn (g.D.Writable.view c.args.device.now).slots (journal (g.D.Writable.view c.args.device.now)) c.args.self.now
    → IsOn (g.D.Writable.view c.write.new.self).slots (journal (g.D.Writable.view c.write.new.self)) c.advance-step.new.self
on_after_write g c on =
    let old : Managed = c.args.self.now in
    let new : Managed = c.advance-step.new.self in
    let next : next_of old.held ≡ Some c.in-Some.write = cc in
    let before : DeviceView = g.D.Writable.view c.args.device.now in
    let after : DeviceView = g.D.Writable.view c.write.new.self in
    let made : HasMade (Written c.in-Some.write ∷ []) before after = c.in_ok-write-in-Some.ensures.made in
    on_written before.slots after.slots (journal before) (journal after) old new c.in-Some.write made.slots (journal_made (Written c.in-Some.write ∷ []) before after made)
    (made_state old 0 old.held c.advance-step.result new c.in-Some.write (c.advance-step.ensures.stepped 0) next) c.next_write.ensures.size c.in-Some.ensures.in_use on

-- and after the end
on_after_end : (g : Over) (c : goal.After-serving-in-None g) → IsOn (g.D.Writable.view c.args.device.now).slots (journal (g.D.Writable.view c.args.device.now)) c.args.self.now
    → IsOn (g.D.Writable.view c.end-step.new.device).slots (journal (g.D.Writable.view c.end-step.new.device)) c.end-step.new.self
on_after_end g c on =
    let before : DeviceView = g.D.Writable.view c.args.device.now in
    let after : DeviceView = g.D.Writable.view c.end-step.new.device in
    let made = c.end-step.ensures.made in
    on_same before.slots after.slots (journal before) (journal after) c.args.self.now c.end-step.new.self made.slots (journal_same _ before after made c.end-step.ensures.wrote) c.end-step.ensures.state on

pub returns-in_ok-write-in-Some-clause-stays_on : goal.returns-in_ok-write-in-Some-clause-stays_on
returns-in_ok-write-in-Some-clause-stays_on g c on = on_after_write g c on

pub returns-in-None-clause-stays_on : goal.returns-in-None-clause-stays_on
returns-in-None-clause-stays_on g c on = on_after_end g c on

pub returns-in_err-write-in-Some-clause-stays_on : goal.returns-in_err-write-in-Some-clause-stays_on
returns-in_err-write-in-Some-clause-stays_on g c on =
    let same : IsUntouched (g.D.Writable.view c.args.device.now) (g.D.Writable.view c.write.new.self) = c.in_err-write-in-Some.ensures.unmade in
    rw (same.slots, same.events) on

pub returns-in_err-write-in-Some-clause-serves : goal.returns-in_err-write-in-Some-clause-serves
returns-in_err-write-in-Some-clause-serves g c on =
    let before : DeviceView = g.D.Writable.view c.args.device.now in
    let same : IsUntouched before (g.D.Writable.view c.write.new.self) = c.in_err-write-in-Some.ensures.unmade in
    rw (same.slots, same.events) (by_journal before.slots (journal before) c.args.self.now c.requires.slots c.serving.ensures.serves on)

pub returns-in_err-write-in-Some-clause-serves_err : goal.returns-in_err-write-in-Some-clause-serves_err
returns-in_err-write-in-Some-clause-serves_err g c =
    let old : Managed = c.args.self.now in
    let before : DeviceView = g.D.Writable.view c.args.device.now in
    let after : DeviceView = g.D.Writable.view c.write.new.self in
    let next : next_of old.held ≡ Some c.in-Some.write = cc in
    let same : IsUntouched before after = c.in_err-write-in-Some.ensures.unmade in
    let wide : old.slots ≤ before.slots = c.requires.slots in
    let served : IsOn before.slots (journal before) old → IfSome (next_of old.held) (λ write. Serves (apply (device_state after) write) old.rules old.held) = λ on.
    rw (same.slots, same.events, next)
    (ahead_by_journal before.slots (journal before) old c.in-Some.write wide on c.next_write.ensures.size c.in-Some.ensures.in_use
    (c.serving.ensures.ahead c.in-Some.write next before.slots wide)) in
    on_any_err c.from_residual.result _ served

pub returns-in-None-clause-serves : goal.returns-in-None-clause-serves
returns-in-None-clause-serves g c on =
    let old : Managed = c.args.self.now in
    let new : Managed = c.end-step.new.self in
    let after : DeviceView = g.D.Writable.view c.end-step.new.device in
    let slots : new.slots ≡ old.slots = same_slots old (length (g.D.Writable.view c.args.device.now).flight) old.held c.end-step.result new c.end-step.ensures.stepped in
    let wide : new.slots ≤ after.slots = rw (slots, c.end-step.ensures.made.slots) c.requires.slots in
    by_journal after.slots (journal after) new wide c.serving-in-None.ensures.serves (on_after_end g c on)

pub returns-in_ok-write-in-Some-clause-serves : goal.returns-in_ok-write-in-Some-clause-serves
returns-in_ok-write-in-Some-clause-serves g c on =
    let old : Managed = c.args.self.now in
    let new : Managed = c.advance-step.new.self in
    let after : DeviceView = g.D.Writable.view c.write.new.self in
    let slots : new.slots ≡ old.slots = same_slots old 0 old.held c.advance-step.result new (c.advance-step.ensures.stepped 0) in
    let wide : new.slots ≤ after.slots = rw (slots, c.in_ok-write-in-Some.ensures.made.slots) c.requires.slots in
    by_journal after.slots (journal after) new wide c.serving-in-Some.ensures.serves (on_after_write g c on)

pub returns-in-None-clause-keeps : goal.returns-in-None-clause-keeps
returns-in-None-clause-keeps g c =
    (steps_keep_current c.args.self.now (length (g.D.Writable.view c.args.device.now).flight) c.end-step.result c.end-step.new.self c.serving.ensures.right c.end-step.ensures.stepped)

pub returns-in_ok-write-in-Some-clause-keeps : goal.returns-in_ok-write-in-Some-clause-keeps
returns-in_ok-write-in-Some-clause-keeps g c =
    (steps_keep_current c.args.self.now (length (g.D.Writable.view c.args.device.now).flight) c.advance-step.result c.advance-step.new.self c.serving.ensures.right (wrote_step g c))

pub returns-in_ok-write-in-Some-clause-way_back : goal.returns-in_ok-write-in-Some-clause-way_back
returns-in_ok-write-in-Some-clause-way_back g c begun way =
    steps_keep_way_back begun c.args.self.now (length (g.D.Writable.view c.args.device.now).flight) c.advance-step.result c.advance-step.new.self way (wrote_step g c)

pub returns-in_ok-write-in-Some-clause-made : goal.returns-in_ok-write-in-Some-clause-made
returns-in_ok-write-in-Some-clause-made g c = rw c.advance-step.ensures.wrote c.in_ok-write-in-Some.ensures.made

pub returns-in-None-clause-leaves : goal.returns-in-None-clause-leaves
returns-in-None-clause-leaves g c =
    let before : DeviceView = g.D.Writable.view c.args.device.now in
    let after : DeviceView = g.D.Writable.view c.end-step.new.device in
    step_leaves c.args.self.now c.end-step.new.self (length before.flight) c.end-step.result before after c.end-step.ensures.stepped c.end-step.ensures.made

pub returns-in_ok-write-in-Some-clause-leaves : goal.returns-in_ok-write-in-Some-clause-leaves
returns-in_ok-write-in-Some-clause-leaves g c =
    let before : DeviceView = g.D.Writable.view c.args.device.now in
    let after : DeviceView = g.D.Writable.view c.write.new.self in
    let did : HasMade (actions_of c.advance-step.result) before after = rw c.advance-step.ensures.wrote c.in_ok-write-in-Some.ensures.made in
    step_leaves c.args.self.now c.advance-step.new.self (length before.flight) c.advance-step.result before after (wrote_step g c) did

pub returns-in_err-write-in-Some-clause-leaves : goal.returns-in_err-write-in-Some-clause-leaves
returns-in_err-write-in-Some-clause-leaves g c =
    let before : DeviceView = g.D.Writable.view c.args.device.now in
    let after : DeviceView = g.D.Writable.view c.write.new.self in
    let same : IsUntouched before after = c.in_err-write-in-Some.ensures.unmade in
    let room : after.spare ≡ before.spare = same.spare in
    same_leaves c.args.self.now c.args.self.now before.spare after.spare refl (omega arith)
