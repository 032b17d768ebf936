use Rattle.std.proofs.Common.{◌≡◌, true, false, Option, Some, None, IsTrue, subst, sym}
use Rattle.batch_order.specs.declared.Step.TheVariants as step
use Rattle.batch_order.specs.declared.held.Held.{Held}
use Rattle.batch_order.specs.Kept.{IsManaged}
use Rattle.batch_order.specs.Managed.{Managed}
use Rattle.batch_order.specs.Steps.{Steps, awaits_drain}
use Rattle.batch_order.specs.Undoing.{StandsAt}
use Rattle.batch_order.proofs.under_way.Carried.{view_of}
use Rattle.batch_order.proofs.under_way.Left.{drained_steps, managed_drained}
use Rattle.batch_order.proofs.manager.Manager.pass_drain.Goals as goal
use Rattle.batch_order.proofs.manager.Manager.pass_drain.Goals.{in-None, in-Some}

pub invariant_of-self : goal.invariant_of-self
invariant_of-self c =
    let i = c.self.inside in
    let requires : IsTrue (awaits_drain (view_of i.placement i.translation i.rules i.live i.arrangement i.held).held) = rw (← c.self.view_is) at c.requires in
    elim c.match-self.branch [
      | in-None w ↦ rw w.self-inside-is c.self.invariant
      | in-Some w ↦
          let held = w.in-Some.held in
          let next : IsTrue (awaits_drain (view_of i.placement i.translation i.rules i.live i.arrangement (Some held)).held) =
          subst (λ (h : Option Held). IsTrue (awaits_drain (view_of i.placement i.translation i.rules i.live i.arrangement h).held)) w.in-Some.is requires in
          rw w.self-inside-is (
            managed_drained i.translation i.rules i.live i.arrangement held (subst (IsManaged i.translation i.rules i.live i.arrangement) w.in-Some.is c.self.invariant.0) i.placement next,
            subst (StandsAt i.arrangement i.planned) w.in-Some.is c.self.invariant.1,
            c.self.invariant.2,
          )
    ]

pub returns-clause-stepped : goal.returns-clause-stepped
returns-clause-stepped c =
    let i = c.self.inside in
    let view : view_of i.placement i.translation i.rules i.live i.arrangement i.held ≡ c.args.self.now = c.self.view_is in
    let requires : IsTrue (awaits_drain (view_of i.placement i.translation i.rules i.live i.arrangement i.held).held) = rw (← c.self.view_is) at c.requires in
    elim c.match-self.branch [
      | in-None w ↦
          let clash : IsTrue (awaits_drain (view_of i.placement i.translation i.rules i.live i.arrangement None).held) =
          subst (λ (h : Option Held). IsTrue (awaits_drain (view_of i.placement i.translation i.rules i.live i.arrangement h).held)) w.in-None.is requires in
          absurd (cc)
      | in-Some w ↦
          let held = w.in-Some.held in
          let next : IsTrue (awaits_drain (view_of i.placement i.translation i.rules i.live i.arrangement (Some held)).held) =
          subst (λ (h : Option Held). IsTrue (awaits_drain (view_of i.placement i.translation i.rules i.live i.arrangement h).held)) w.in-Some.is requires in
          let new = view_of i.placement i.translation i.rules i.live i.arrangement (Some (record held { awaits = false; drained = true })) in
          let steps : Steps (view_of i.placement i.translation i.rules i.live i.arrangement i.held) 0 (view_of i.placement i.translation i.rules i.live i.arrangement i.held).held step.Drained new =
          subst (λ (h : Option Held). Steps (view_of i.placement i.translation i.rules i.live i.arrangement h) 0 (view_of i.placement i.translation i.rules i.live i.arrangement h).held step.Drained new) (sym w.in-Some.is)
          (drained_steps i.translation i.rules i.live i.arrangement held (subst (IsManaged i.translation i.rules i.live i.arrangement) w.in-Some.is c.self.invariant.0) i.placement next) in
          rw (w.self-inside-is, w.result-is) (subst (λ (old : Managed). Steps old 0 old.held step.Drained new) view steps)
    ]
