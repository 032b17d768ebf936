use Rattle.std.proofs.Common.{◌≡◌, Option, Some, None, IsSome, subst, sym}
use Rattle.batch_order.specs.declared.Step.TheVariants.{Wrote}
use Rattle.batch_order.specs.declared.held.Held.{Held}
use Rattle.batch_order.specs.Kept.{IsManaged, passed}
use Rattle.batch_order.specs.Managed.{Managed}
use Rattle.batch_order.specs.Steps.{Steps, next_of}
use Rattle.batch_order.specs.Undoing.{StandsAt}
use Rattle.batch_order.proofs.under_way.Carried.{view_of}
use Rattle.batch_order.proofs.under_way.Left.{managed_next, may_pass, pass_steps}
use Rattle.batch_order.proofs.manager.Manager.pass_write.Goals as goal
use Rattle.batch_order.proofs.manager.Manager.pass_write.Goals.{in-None, in-Some}

pub pass-requires-clause-on : goal.pass-requires-clause-on
pass-requires-clause-on c =
    let i = c.self.inside in
    let requires : IsSome (next_of (view_of i.placement i.translation i.rules i.live i.arrangement i.held).held) = rw (← c.self.view_is) at c.requires in
    let next = subst (λ (h : Option Held). IsSome (next_of (view_of i.placement i.translation i.rules i.live i.arrangement h).held)) c.in-Some.is requires in
    (may_pass i.translation i.rules i.live i.arrangement c.in-Some.held (subst (IsManaged i.translation i.rules i.live i.arrangement) c.in-Some.is c.self.invariant.0) next).0

pub pass-requires-clause-back : goal.pass-requires-clause-back
pass-requires-clause-back c =
    let i = c.self.inside in
    let requires : IsSome (next_of (view_of i.placement i.translation i.rules i.live i.arrangement i.held).held) = rw (← c.self.view_is) at c.requires in
    let next = subst (λ (h : Option Held). IsSome (next_of (view_of i.placement i.translation i.rules i.live i.arrangement h).held)) c.in-Some.is requires in
    (may_pass i.translation i.rules i.live i.arrangement c.in-Some.held (subst (IsManaged i.translation i.rules i.live i.arrangement) c.in-Some.is c.self.invariant.0) next).1

pub invariant_of-self : goal.invariant_of-self
invariant_of-self c = elim c.match-self.branch [
  | in-None w ↦ rw w.self-inside-is c.self.invariant
  | in-Some w ↦
      let i = c.self.inside in
      let held = w.in-Some.held in
      let requires : IsSome (next_of (view_of i.placement i.translation i.rules i.live i.arrangement i.held).held) = rw (← c.self.view_is) at c.requires in
      let next = subst (λ (h : Option Held). IsSome (next_of (view_of i.placement i.translation i.rules i.live i.arrangement h).held)) w.in-Some.is requires in
      rw w.self-inside-is (rw w.pass.ensures (
        managed_next i.translation i.rules i.live i.arrangement held (subst (IsManaged i.translation i.rules i.live i.arrangement) w.in-Some.is c.self.invariant.0) i.placement next,
        subst (StandsAt i.arrangement i.planned) w.in-Some.is c.self.invariant.1,
        c.self.invariant.2,
      ))
]

pub returns : goal.returns
returns c words write due = elim c.match-self.branch [
  | in-None w ↦
      let i = c.self.inside in
      let requires : IsSome (next_of (view_of i.placement i.translation i.rules i.live i.arrangement i.held).held) = rw (← c.self.view_is) at c.requires in
      let clash : IsSome (next_of (view_of i.placement i.translation i.rules i.live i.arrangement None).held) =
      subst (λ (h : Option Held). IsSome (next_of (view_of i.placement i.translation i.rules i.live i.arrangement h).held)) w.in-None.is requires in
      absurd (cc)
  | in-Some w ↦
      let i = c.self.inside in
      let held = w.in-Some.held in
      let view : view_of i.placement i.translation i.rules i.live i.arrangement i.held ≡ c.args.self.now = c.self.view_is in
      let requires : next_of (view_of i.placement i.translation i.rules i.live i.arrangement i.held).held ≡ Some write = rw (← c.self.view_is) at due in
      let next = subst (λ (h : Option Held). next_of (view_of i.placement i.translation i.rules i.live i.arrangement h).held ≡ Some write) w.in-Some.is requires in
      let new = view_of i.placement i.translation i.rules i.live i.arrangement (Some (passed held)) in
      let steps : Steps (view_of i.placement i.translation i.rules i.live i.arrangement i.held) words (view_of i.placement i.translation i.rules i.live i.arrangement i.held).held (Wrote write) new =
      subst (λ (h : Option Held). Steps (view_of i.placement i.translation i.rules i.live i.arrangement h) words (view_of i.placement i.translation i.rules i.live i.arrangement h).held (Wrote write) new) (sym w.in-Some.is)
      (pass_steps i.translation i.rules i.live i.arrangement held (subst (IsManaged i.translation i.rules i.live i.arrangement) w.in-Some.is c.self.invariant.0) i.placement write next words) in
      rw w.self-inside-is (subst (λ (h : Held). Steps c.args.self.now words c.args.self.now.held (Wrote write) (view_of i.placement i.translation i.rules i.live i.arrangement (Some h))) (sym w.pass.ensures)
      (subst (λ (old : Managed). Steps old words old.held (Wrote write) new) view steps))
]
