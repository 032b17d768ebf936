use Rattle.std.proofs.Common.{◌≡◌, ◌≤◌, ℕ, Some, subst}
use Rattle.tcam_device.specs.declared.Write.{Write}
use Rattle.tcam_device.specs.State.{apply, on_device}
use Rattle.batch_order.specs.Managed.{Managed, Serves}
use Rattle.batch_order.specs.Steps.{ServesNow, next_of}
use Rattle.batch_order.specs.Turning.{IsHeldRight}
use Rattle.batch_order.proofs.served.Ahead.{serves, serves_ahead}
use Rattle.batch_order.proofs.under_way.Carried.{view_of}
use Rattle.batch_order.proofs.served.Resting.{right_now, serves_now}
use Rattle.batch_order.proofs.manager.Manager.serving.Goals as goal

pub returns-clause-serves : goal.returns-clause-serves
returns-clause-serves c =
    let i = c.self.inside in
    let view : view_of i.placement i.translation i.rules i.live i.arrangement i.held ≡ c.args.self.now = c.self.view_is in
    subst (λ (m : Managed). (device_slots : ℕ) → m.slots ≤ device_slots → Serves (on_device device_slots m.state) m.rules m.held) view
    (serves i.placement i.translation i.rules i.live i.arrangement i.held c.self.invariant.0)

pub returns-clause-ahead : goal.returns-clause-ahead
returns-clause-ahead c =
    let i = c.self.inside in
    let view : view_of i.placement i.translation i.rules i.live i.arrangement i.held ≡ c.args.self.now = c.self.view_is in
    subst (λ (m : Managed). (write : Write) → next_of m.held ≡ Some write → (device_slots : ℕ) → m.slots ≤ device_slots → Serves (on_device device_slots (apply m.state write)) m.rules m.held) view
    (λ write. serves_ahead i.placement i.translation i.rules i.live i.arrangement i.held write c.self.invariant.0)

pub returns-clause-now : goal.returns-clause-now
returns-clause-now c =
    let i = c.self.inside in
    let view : view_of i.placement i.translation i.rules i.live i.arrangement i.held ≡ c.args.self.now = c.self.view_is in
    subst ServesNow view (serves_now i.placement i.translation i.rules i.live i.arrangement i.held c.self.invariant.0)

pub returns-clause-right : goal.returns-clause-right
returns-clause-right c =
    let i = c.self.inside in
    let view : view_of i.placement i.translation i.rules i.live i.arrangement i.held ≡ c.args.self.now = c.self.view_is in
    subst IsHeldRight view (right_now i.placement i.translation i.rules i.live i.arrangement i.held c.self.invariant.0)
