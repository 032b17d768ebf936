use Rattle.std.proofs.Common.{◌≡◌, ◌≤◌, ℕ, Option, Some, None, length, subst, arith}
use Rattle.std.specs.Prelude.{IfSome}
use Rattle.slot_order.specs.Order.{most_slots}
use Rattle.rule_store.specs.Verdict.{entries_of}
use Rattle.tcam_device.specs.State.{Shows, on_device}
use Rattle.tcam_device.specs.Hitless.{ShowsOldOrNew}
use Rattle.batch_order.specs.declared.held.Held.{Held}
use Rattle.batch_order.specs.Kept.{IsManaged, mode_of}
use Rattle.batch_order.specs.Managed.{Managed}
use Rattle.batch_order.specs.Steps.{ServesNow}
use Rattle.batch_order.proofs.ids.Needed.{rules_entries}
use Rattle.batch_order.proofs.planning.Judged.{entries_few}
use Rattle.batch_order.proofs.under_way.Carried.{view_of}
use Rattle.batch_order.proofs.served.Resting.{serves_now}
use Rattle.batch_order.proofs.served.Answered.{idle_answers, held_answers}
use Rattle.batch_order.proofs.manager.Manager.rules.Goals as goal

pub returns-clause-answers : goal.returns-clause-answers
returns-clause-answers c =
    let i = c.self.inside in
    let view : view_of i.placement i.translation i.rules i.live i.arrangement i.held ≡ c.args.self.now = c.self.view_is in
    subst (λ (m : Managed). m.held ≡ None → (device_slots : ℕ) → m.slots ≤ device_slots → Shows (on_device device_slots m.state) m.rules) view (go i.held c.self.invariant.0)
  where
    go : (h : Option Held) → IsManaged c.self.inside.translation c.self.inside.rules c.self.inside.live c.self.inside.arrangement h
        → (view_of c.self.inside.placement c.self.inside.translation c.self.inside.rules c.self.inside.live c.self.inside.arrangement h).held ≡ None → (device_slots : ℕ) → length c.self.inside.arrangement ≤ device_slots
        → Shows (on_device device_slots (view_of c.self.inside.placement c.self.inside.translation c.self.inside.rules c.self.inside.live c.self.inside.arrangement h).state) c.self.inside.rules.rules
    go None managed none device_slots wide = idle_answers c.self.inside.translation c.self.inside.rules c.self.inside.live c.self.inside.arrangement managed device_slots wide
    go (Some held) managed none device_slots wide = absurd (cc)

pub returns-clause-on_the_way : goal.returns-clause-on_the_way
returns-clause-on_the_way c =
    let i = c.self.inside in
    let view : view_of i.placement i.translation i.rules i.live i.arrangement i.held ≡ c.args.self.now = c.self.view_is in
    subst (λ (m : Managed). IfSome m.held (λ held. (device_slots : ℕ) → m.slots ≤ device_slots → ShowsOldOrNew (on_device device_slots m.state) m.rules held.rules)) view (go i.held c.self.invariant.0)
  where
    go : (h : Option Held) → IsManaged c.self.inside.translation c.self.inside.rules c.self.inside.live c.self.inside.arrangement h
        → IfSome (view_of c.self.inside.placement c.self.inside.translation c.self.inside.rules c.self.inside.live c.self.inside.arrangement h).held (λ held. (device_slots : ℕ) → length c.self.inside.arrangement ≤ device_slots
        → ShowsOldOrNew (on_device device_slots (view_of c.self.inside.placement c.self.inside.translation c.self.inside.rules c.self.inside.live c.self.inside.arrangement h).state) c.self.inside.rules.rules held.rules)
    go None managed = tt
    go (Some held) managed = held_answers c.self.inside.translation c.self.inside.rules c.self.inside.live c.self.inside.arrangement held managed

pub returns-clause-serves : goal.returns-clause-serves
returns-clause-serves c =
    let i = c.self.inside in
    let view : view_of i.placement i.translation i.rules i.live i.arrangement i.held ≡ c.args.self.now = c.self.view_is in
    subst ServesNow view (serves_now i.placement i.translation i.rules i.live i.arrangement i.held c.self.invariant.0)

pub returns-clause-few : goal.returns-clause-few
returns-clause-few c =
    let i = c.self.inside in
    let view : view_of i.placement i.translation i.rules i.live i.arrangement i.held ≡ c.args.self.now = c.self.view_is in
    let most : entries_of (mode_of i.translation) i.rules.rules ≤ most_slots = entries_few i.translation i.rules i.live i.arrangement i.held c.self.invariant.0 in
    let fewer = rules_entries (mode_of i.translation) i.rules.rules c.self.invariant.0.right in
    let few : length i.rules.rules ≤ most_slots = omega arith in
    subst (λ (m : Managed). length m.rules ≤ most_slots) view few
