use Rattle.std.proofs.Common.{◌≡◌, ℕ, true, IsSome, List, Option, Some, None, refl, subst, sym, ap, ◌∙◌}
use Rattle.std.specs.Prelude.{unwrap_or}
use Rattle.placement.specs.declared.LivePiece.{LivePiece}
use Rattle.batch_order.specs.declared.held.Held.{Held}
use Rattle.batch_order.specs.Entries.{AreLast}
use Rattle.batch_order.specs.declared.Step.TheVariants as step
use Rattle.batch_order.specs.Kept.{IsManaged, undo_left}
use Rattle.batch_order.specs.Managed.{Managed}
use Rattle.batch_order.specs.Steps.{IsAllMade, Steps, is_turned}
use Rattle.batch_order.specs.Undoing.{StandsAt}
use Rattle.batch_order.proofs.under_way.Left.{way}
use Rattle.batch_order.proofs.under_way.Carried.{view_of}
use Rattle.batch_order.proofs.back.Reverted.{IsReverted, managed_reverted, revert_steps, reverted_behind}
use Rattle.batch_order.proofs.under_way.Ways.{back_way}
use Rattle.batch_order.proofs.manager.Manager.revert.Goals as goal

pub forget_all-requires : goal.forget_all-requires
forget_all-requires c =
    let i = c.self.inside in
    let was : c.self.inside.held ≡ Some c.in-Some.held = cc in
    let before = subst (IsManaged c.self.inside.translation c.self.inside.rules c.self.inside.live c.self.inside.arrangement) was c.self.invariant.0 in
    let back : is_turned (view_of i.placement i.translation i.rules i.live i.arrangement i.held).held ≡ true = rw (← c.self.view_is) at c.requires.turned in
    let turned = back_way c.in-Some.held.turned (undo_left i.translation i.arrangement i.live.entries c.in-Some.held) (subst (λ (h : Option Held). is_turned (view_of i.placement i.translation i.rules i.live i.arrangement h).held ≡ true) was back) in
    subst (λ (live : List LivePiece). AreLast live c.in-Some.held.ids.items) (sym c.take_back.ensures.live) (way i.translation i.rules i.live i.arrangement c.in-Some.held before turned.0 turned.1).added

pub invariant_of-self-in-Some : goal.invariant_of-self-in-Some
invariant_of-self-in-Some c =
    let i = c.self.inside in
    let held = c.in-Some.held in
    let was : i.held ≡ Some held = cc in
    let before = subst (IsManaged i.translation i.rules i.live i.arrangement) was c.self.invariant.0 in
    let reverted : IsReverted i.live c.forget_all.new.live held =
    reverted_behind i.live c.take_back.new.live c.forget_all.new.live held c.take_back.ensures.live c.take_back.ensures.entries c.take_back.ensures.slots c.forget_all.ensures.live c.forget_all.ensures.kept c.forget_all.ensures.slots in
    let back : is_turned (view_of i.placement i.translation i.rules i.live i.arrangement i.held).held ≡ true = rw (← c.self.view_is) at c.requires.turned in
    let turned = back_way held.turned (undo_left i.translation i.arrangement i.live.entries held) (subst (λ (h : Option Held). is_turned (view_of i.placement i.translation i.rules i.live i.arrangement h).held ≡ true) was back) in
    let stands = subst (StandsAt i.arrangement i.planned) was c.self.invariant.1 in
    let some : IsSome held.turned = rw turned.1 refl in
    rw c.take.ensures.after (
      managed_reverted i.translation i.rules i.live c.forget_all.new.live i.arrangement held before (way i.translation i.rules i.live i.arrangement held before turned.0 turned.1) reverted,
      c.take_back.ensures.back i.arrangement (stands.1 (before.carried.back some)),
      c.forget_all.ensures.told c.take_back.new.arrangement (c.take_back.ensures.told c.self.invariant.2),
    )

pub take_back-requires : goal.take_back-requires
take_back-requires c =
    let i = c.self.inside in
    let held = c.in-Some.held in
    let was : i.held ≡ Some held = cc in
    let before = subst (IsManaged i.translation i.rules i.live i.arrangement) was c.self.invariant.0 in
    let back : is_turned (view_of i.placement i.translation i.rules i.live i.arrangement i.held).held ≡ true = rw (← c.self.view_is) at c.requires.turned in
    let turned = back_way held.turned (undo_left i.translation i.arrangement i.live.entries held) (subst (λ (h : Option Held). is_turned (view_of i.placement i.translation i.rules i.live i.arrangement h).held ≡ true) was back) in
    let some : IsSome held.turned = rw turned.1 refl in
    (i.arrangement, (subst (StandsAt i.arrangement i.planned) was c.self.invariant.1).1 (before.carried.back some))

pub returns-in-Some : goal.returns-in-Some
returns-in-Some c words =
    let i = c.self.inside in
    let held = c.in-Some.held in
    let was : i.held ≡ Some held = cc in
    let before = subst (IsManaged i.translation i.rules i.live i.arrangement) was c.self.invariant.0 in
    let reverted : IsReverted i.live c.forget_all.new.live held =
    reverted_behind i.live c.take_back.new.live c.forget_all.new.live held c.take_back.ensures.live c.take_back.ensures.entries c.take_back.ensures.slots c.forget_all.ensures.live c.forget_all.ensures.kept c.forget_all.ensures.slots in
    let view : view_of i.placement i.translation i.rules i.live i.arrangement i.held ≡ c.args.self.now = c.self.view_is in
    let all : IsAllMade (view_of i.placement i.translation i.rules i.live i.arrangement i.held).held = rw (← c.self.view_is) at c.requires.made in
    let back : is_turned (view_of i.placement i.translation i.rules i.live i.arrangement i.held).held ≡ true = rw (← c.self.view_is) at c.requires.turned in
    let made = subst (λ (h : Option Held). IsAllMade (view_of i.placement i.translation i.rules i.live i.arrangement h).held) was all in
    let turned = back_way held.turned (undo_left i.translation i.arrangement i.live.entries held) (subst (λ (h : Option Held). is_turned (view_of i.placement i.translation i.rules i.live i.arrangement h).held ≡ true) was back) in
    let number : c.unwrap_or-undone.result ≡ turned.0 = c.unwrap_or-undone.ensures ∙ ap (λ (t : Option ℕ). unwrap_or t 0) turned.1 in
    let new = view_of i.placement i.translation i.rules c.forget_all.new.live i.arrangement None in
    let steps : Steps (view_of i.placement i.translation i.rules i.live i.arrangement i.held) words (view_of i.placement i.translation i.rules i.live i.arrangement i.held).held (step.Reverted turned.0) new =
    subst (λ (h : Option Held). Steps (view_of i.placement i.translation i.rules i.live i.arrangement h) words (view_of i.placement i.translation i.rules i.live i.arrangement h).held (step.Reverted turned.0) new) (sym was)
    (revert_steps i.translation i.rules i.live c.forget_all.new.live i.arrangement held before (way i.translation i.rules i.live i.arrangement held before turned.0 turned.1) reverted turned.0 turned.1 i.placement made words) in
    rw (c.take.ensures.after, number) (subst (λ (old : Managed). Steps old words old.held (step.Reverted turned.0) new) view steps)
