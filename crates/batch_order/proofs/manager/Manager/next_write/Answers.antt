use Rattle.std.proofs.Common.{◌≡◌, List, Option, None, Some, length, sym, ap, subst, ◌∙◌}
use Rattle.std.specs.Prelude.{option_map}
use Rattle.tcam_device.specs.declared.Write.{Write}
use Rattle.tcam_device.specs.State.{IsInUse}
use Rattle.commit_writes.specs.declared.Rewrite.{Rewrite}
use Rattle.batch_order.specs.declared.held.Held.{Held}
use Rattle.batch_order.specs.declared.planned_writes.PlannedWrite.{PlannedWrite}
use Rattle.batch_order.specs.Kept.{IsManaged, due_of}
use Rattle.batch_order.specs.Managed.{Managed}
use Rattle.batch_order.specs.Steps.{next_of}
use Rattle.batch_order.specs.Planning.{as_write}
use Rattle.batch_order.proofs.under_way.Carried.{state_size, view_of}
use Rattle.batch_order.proofs.under_way.Left.{next_is, passes}
use Rattle.batch_order.proofs.manager.Manager.next_write.Goals as goal

-- the write that is answered is the planned one that is due
read_due : (c : goal.After-write_of) → Some c.write_of.result ≡ next_of (view_of c.self.inside.placement c.self.inside.translation c.self.inside.rules c.self.inside.live c.self.inside.arrangement (Some c.in-Some.held)).held
read_due c =
    let i = c.self.inside in
    let held = c.in-Some.held in
    let one : PlannedWrite = c.in-Some-due.planned in
    let managed : IsManaged i.translation i.rules i.live i.arrangement (Some held) = subst (IsManaged i.translation i.rules i.live i.arrangement) c.in-Some.is c.self.invariant.0 in
    let planned : due_of held ≡ Some one = sym c.due.ensures ∙ c.in-Some-due.is in
    let made : c.write_of.result ≡ as_write i.live.entries held.rewrites.items one = c.write_of.ensures ∙ ap (λ (rewrites : List Rewrite). as_write i.live.entries rewrites one) c.deref.ensures.value in
    ap (λ (write : Write). Some write) made
    ∙ (sym (ap (λ (due : Option PlannedWrite). option_map (as_write i.live.entries held.rewrites.items) due) planned) ∙ sym (next_is i.translation i.rules i.live i.arrangement held managed))

pub returns-in-Some-due-clause-next : goal.returns-in-Some-due-clause-next
returns-in-Some-due-clause-next c =
    let i = c.self.inside in
    let view : view_of i.placement i.translation i.rules i.live i.arrangement i.held ≡ c.args.self.now = c.self.view_is in
    subst (λ (m : Managed). Some c.write_of.result ≡ next_of m.held) view
    (subst (λ (h : Option Held). Some c.write_of.result ≡ next_of (view_of i.placement i.translation i.rules i.live i.arrangement h).held) (sym c.in-Some.is) (read_due c))

pub returns-in-Some-due-clause-in_use : goal.returns-in-Some-due-clause-in_use
returns-in-Some-due-clause-in_use c =
    let i = c.self.inside in
    let managed : IsManaged i.translation i.rules i.live i.arrangement (Some c.in-Some.held) = subst (IsManaged i.translation i.rules i.live i.arrangement) c.in-Some.is c.self.invariant.0 in
    subst (λ (m : Managed). IsInUse m.slots c.write_of.result) c.self.view_is
    (passes i.translation i.rules i.live i.arrangement c.in-Some.held managed c.write_of.result (sym (read_due c))).in_use

pub returns-in-Some-due-clause-size : goal.returns-in-Some-due-clause-size
returns-in-Some-due-clause-size c =
    let i = c.self.inside in
    subst (λ (m : Managed). length m.state.slots ≡ m.slots) c.self.view_is (state_size i.translation i.live i.arrangement i.held)

-- none is answered where none is due
pub returns-in-None-due-clause-next : goal.returns-in-None-due-clause-next
returns-in-None-due-clause-next c =
    let i = c.self.inside in
    let held = c.in-Some.held in
    let managed : IsManaged i.translation i.rules i.live i.arrangement (Some held) = subst (IsManaged i.translation i.rules i.live i.arrangement) c.in-Some.is c.self.invariant.0 in
    let view : view_of i.placement i.translation i.rules i.live i.arrangement i.held ≡ c.args.self.now = c.self.view_is in
    let planned : due_of held ≡ None = sym c.due.ensures ∙ c.in-None-due.is in
    let none : None ≡ next_of (view_of i.placement i.translation i.rules i.live i.arrangement (Some held)).held =
    sym (ap (λ (due : Option PlannedWrite). option_map (as_write i.live.entries held.rewrites.items) due) planned) ∙ sym (next_is i.translation i.rules i.live i.arrangement held managed) in
    subst (λ (m : Managed). None ≡ next_of m.held) view
    (subst (λ (h : Option Held). None ≡ next_of (view_of i.placement i.translation i.rules i.live i.arrangement h).held) (sym c.in-Some.is) none)

pub returns-in-None-due-clause-size : goal.returns-in-None-due-clause-size
returns-in-None-due-clause-size c =
    let i = c.self.inside in
    subst (λ (m : Managed). length m.state.slots ≡ m.slots) c.self.view_is (state_size i.translation i.live i.arrangement i.held)
