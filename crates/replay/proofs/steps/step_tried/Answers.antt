-- A step that was made uses the room that was kept for it, and a failure leaves all as it was.
use Rattle.std.proofs.Common.{◌≡◌, ℕ, List, sym, subst}
use Rattle.tcam_device.specs.declared.Action.{Action}
use Rattle.tcam_device.specs.Flight.{writes_in}
use Rattle.tcam_device.specs.View.{DeviceView, IsUntouched, journal}
use Rattle.batch_order.specs.CarriedOut.{HasRoomBothWays}
use Rattle.batch_order.specs.Managed.{IsOn, Managed}
use Rattle.replay.proofs.steps.step_tried.Goals as goal

kept-room : (was now : Managed) (begun at : DeviceView) → now ≡ was → IsUntouched begun at → HasRoomBothWays was.held begun.spare → HasRoomBothWays now.held at.spare
kept-room was now begun at same still room =
    subst (λ (n : ℕ). HasRoomBothWays now.held n) (sym still.spare) (subst (λ (m : Managed). HasRoomBothWays m.held begun.spare) (sym same) room)

kept-on : (was now : Managed) (begun at : DeviceView) → now ≡ was → IsUntouched begun at → IsOn begun.slots (journal begun) was → IsOn at.slots (journal at) now
kept-on was now begun at same still on =
    subst (λ (n : ℕ). IsOn n (journal at) now) (sym still.slots)
    (subst (λ (events : List Action). IsOn begun.slots (writes_in events) now) (sym still.events) (subst (λ (m : Managed). IsOn begun.slots (journal begun) m) (sym same) on))

pub returns-in-Ok-clause-room : goal.returns-in-Ok-clause-room
returns-in-Ok-clause-room g c =
    let i = c.trying.invariant in
    c.in-Ok.ensures.leaves.both_ways (kept-room c.args.manager.now c.trying.manager (g.D.Writable.view c.args.device.now) (g.D.Writable.view c.trying.device) i.manager i.untouched c.requires.room)

pub returns-in-Ok-clause-stays_on : goal.returns-in-Ok-clause-stays_on
returns-in-Ok-clause-stays_on g c on =
    let i = c.trying.invariant in
    c.in-Ok.ensures.stays_on (kept-on c.args.manager.now c.trying.manager (g.D.Writable.view c.args.device.now) (g.D.Writable.view c.trying.device) i.manager i.untouched on)

pub returns-then-failures-eq-TRIES-clause-room : goal.returns-then-failures-eq-TRIES-clause-room
returns-then-failures-eq-TRIES-clause-room g c =
    let i = c.trying.invariant in
    let failed = c.in-Err.ensures in
    let at : DeviceView = g.D.Writable.view c.trying.device in
    kept-room c.trying.manager c.step.new.self at (g.D.Writable.view c.step.new.device) failed.failed failed.unmade
    (kept-room c.args.manager.now c.trying.manager (g.D.Writable.view c.args.device.now) at i.manager i.untouched c.requires.room)

pub returns-then-failures-eq-TRIES-clause-stays_on : goal.returns-then-failures-eq-TRIES-clause-stays_on
returns-then-failures-eq-TRIES-clause-stays_on g c on =
    let i = c.trying.invariant in
    let failed = c.in-Err.ensures in
    let at : DeviceView = g.D.Writable.view c.trying.device in
    kept-on c.trying.manager c.step.new.self at (g.D.Writable.view c.step.new.device) failed.failed failed.unmade
    (kept-on c.args.manager.now c.trying.manager (g.D.Writable.view c.args.device.now) at i.manager i.untouched on)
