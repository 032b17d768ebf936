use Rattle.std.proofs.Common.{◌≡◌, Option, Some, Err, subst, sym, refl}
use Rattle.batch_order.specs.declared.held.Held.{Held}
use Rattle.batch_order.specs.declared.AbortFault.TheVariants as abort_fault
use Rattle.batch_order.specs.Kept.{IsManaged}
use Rattle.batch_order.specs.Managed.{Managed}
use Rattle.batch_order.specs.Steps.{Aborts}
use Rattle.batch_order.specs.Undoing.{StandsAt}
use Rattle.batch_order.proofs.back.Aborted.{IsTurnedBy, KeepsOn, aborts_by, keeps_on, managed_by, stands_turned}
use Rattle.batch_order.proofs.under_way.Carried.{view_of}
use Rattle.batch_order.proofs.manager.Manager.abort.Goals as goal
use Rattle.batch_order.proofs.manager.Manager.abort.Goals.{in-None, in-Some}

pub invariant_of-self : goal.invariant_of-self
invariant_of-self c = elim c.match-self.branch [
  | in-None w ↦ rw w.self-inside-is c.self.invariant
  | in-Some w ↦
      let i = c.self.inside in
      let held = w.in-Some.held in
      let managed = subst (IsManaged i.translation i.rules i.live i.arrangement) w.in-Some.is c.self.invariant.0 in
      let turns : IsTurnedBy i.translation i.rules i.live i.arrangement held managed i.placement w.turn.result w.turn.new.self =
      record { restarted = w.turn.ensures.restarted; turns = w.turn.ensures.turns; stays = w.turn.ensures.stays } in
      rw w.self-inside-is (
        managed_by i.translation i.rules i.live i.arrangement held managed i.placement w.turn.result w.turn.new.self turns,
        stands_turned i.translation i.rules i.live i.arrangement held managed i.placement i.arrangement i.planned w.turn.result w.turn.new.self turns (subst (StandsAt i.arrangement i.planned) w.in-Some.is c.self.invariant.1),
        c.self.invariant.2,
      )
]

pub returns-clause-aborts : goal.returns-clause-aborts
returns-clause-aborts c = elim c.match-self.branch [
  | in-None w ↦
      let i = c.self.inside in
      let view : view_of i.placement i.translation i.rules i.live i.arrangement i.held ≡ c.args.self.now = c.self.view_is in
      rw (w.self-inside-is, w.result-is) (subst (λ (old : Managed). Aborts old old.held (Err abort_fault.Idle) (view_of i.placement i.translation i.rules i.live i.arrangement i.held)) view
      (subst (λ (h : Option Held). Aborts (view_of i.placement i.translation i.rules i.live i.arrangement h) (view_of i.placement i.translation i.rules i.live i.arrangement h).held (Err abort_fault.Idle) (view_of i.placement i.translation i.rules i.live i.arrangement h)) (sym w.in-None.is) (refl, refl)))
  | in-Some w ↦
      let i = c.self.inside in
      let held = w.in-Some.held in
      let managed = subst (IsManaged i.translation i.rules i.live i.arrangement) w.in-Some.is c.self.invariant.0 in
      let view : view_of i.placement i.translation i.rules i.live i.arrangement i.held ≡ c.args.self.now = c.self.view_is in
      let new = view_of i.placement i.translation i.rules i.live i.arrangement (Some w.turn.new.self) in
      rw (w.self-inside-is, w.result-is) (subst (λ (old : Managed). Aborts old old.held w.turn.result new) view
      (subst (λ (h : Option Held). Aborts (view_of i.placement i.translation i.rules i.live i.arrangement h) (view_of i.placement i.translation i.rules i.live i.arrangement h).held w.turn.result new) (sym w.in-Some.is)
      (aborts_by i.translation i.rules i.live i.arrangement held managed i.placement w.turn.result w.turn.new.self
      record { restarted = w.turn.ensures.restarted; turns = w.turn.ensures.turns; stays = w.turn.ensures.stays })))
]

-- what the answer says of the rest
kept : (c : goal.Joined-self) → KeepsOn c.args.self.now (view_of c.match-self.self-inside.placement c.match-self.self-inside.translation c.match-self.self-inside.rules c.match-self.self-inside.live c.match-self.self-inside.arrangement c.match-self.self-inside.held)
kept c = keeps_on c.args.self.now _ c.match-self.result (returns-clause-aborts c)

pub returns-clause-way_back : goal.returns-clause-way_back
returns-clause-way_back c = (kept c).way_back

pub returns-clause-current : goal.returns-clause-current
returns-clause-current c = (kept c).current
