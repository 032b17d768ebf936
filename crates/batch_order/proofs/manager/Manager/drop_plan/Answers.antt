use Rattle.std.proofs.Common.{◌≡◌, true, List, Option, Some, None, subst, sym, ap, ◌∙◌}
use Rattle.placement.specs.declared.LivePiece.{LivePiece}
use Rattle.batch_order.specs.declared.held.Held.{Held}
use Rattle.batch_order.specs.Entries.{AreLast}
use Rattle.batch_order.specs.Kept.{IsManaged}
use Rattle.batch_order.specs.Steps.{cancelled, is_unwritten}
use Rattle.batch_order.specs.Undoing.{StandsAt}
use Rattle.batch_order.proofs.under_way.Carried.{view_of}
use Rattle.batch_order.proofs.back.Reverted.{IsReverted, dropped_view, managed_reverted, reverted_behind}
use Rattle.batch_order.proofs.under_way.Unwritten.{unwritten_is, unwritten_parts}
use Rattle.batch_order.proofs.manager.Manager.drop_plan.Goals as goal

pub forget_all-requires : goal.forget_all-requires
forget_all-requires c =
    let i = c.self.inside in
    let held = c.in-Some.held in
    let was : i.held ≡ Some held = cc in
    let before = subst (IsManaged i.translation i.rules i.live i.arrangement) was c.self.invariant.0 in
    let said : is_unwritten (view_of i.placement i.translation i.rules i.live i.arrangement i.held).held ≡ true = rw (← c.self.view_is) at c.requires in
    let here = subst (λ (h : Option Held). is_unwritten (view_of i.placement i.translation i.rules i.live i.arrangement h).held ≡ true) was said in
    let one = unwritten_parts held (sym (unwritten_is i.translation i.rules i.live i.arrangement held before) ∙ here) in
    subst (λ (live : List LivePiece). AreLast live held.ids.items) (sym c.take_back.ensures.live) (before.carried.way_back one.prepared).added

pub invariant_of-self-in-Some : goal.invariant_of-self-in-Some
invariant_of-self-in-Some c =
    let i = c.self.inside in
    let held = c.in-Some.held in
    let was : i.held ≡ Some held = cc in
    let before = subst (IsManaged i.translation i.rules i.live i.arrangement) was c.self.invariant.0 in
    let reverted : IsReverted i.live c.forget_all.new.live held =
    reverted_behind i.live c.take_back.new.live c.forget_all.new.live held c.take_back.ensures.live c.take_back.ensures.entries c.take_back.ensures.slots c.forget_all.ensures.live c.forget_all.ensures.kept c.forget_all.ensures.slots in
    let said : is_unwritten (view_of i.placement i.translation i.rules i.live i.arrangement i.held).held ≡ true = rw (← c.self.view_is) at c.requires in
    let here = subst (λ (h : Option Held). is_unwritten (view_of i.placement i.translation i.rules i.live i.arrangement h).held ≡ true) was said in
    let one = unwritten_parts held (sym (unwritten_is i.translation i.rules i.live i.arrangement held before) ∙ here) in
    let stands = subst (StandsAt i.arrangement i.planned) was c.self.invariant.1 in
    rw c.take.ensures.after (
      managed_reverted i.translation i.rules i.live c.forget_all.new.live i.arrangement held before (before.carried.way_back one.prepared) reverted,
      c.take_back.ensures.back i.arrangement (stands.1 one.prepared),
      c.forget_all.ensures.told c.take_back.new.arrangement (c.take_back.ensures.told c.self.invariant.2),
    )

pub take_back-requires : goal.take_back-requires
take_back-requires c =
    let i = c.self.inside in
    let held = c.in-Some.held in
    let was : i.held ≡ Some held = cc in
    let before = subst (IsManaged i.translation i.rules i.live i.arrangement) was c.self.invariant.0 in
    let said : is_unwritten (view_of i.placement i.translation i.rules i.live i.arrangement i.held).held ≡ true = rw (← c.self.view_is) at c.requires in
    let here = subst (λ (h : Option Held). is_unwritten (view_of i.placement i.translation i.rules i.live i.arrangement h).held ≡ true) was said in
    let one = unwritten_parts held (sym (unwritten_is i.translation i.rules i.live i.arrangement held before) ∙ here) in
    (i.arrangement, (subst (StandsAt i.arrangement i.planned) was c.self.invariant.1).1 one.prepared)

pub returns-in-Some : goal.returns-in-Some
returns-in-Some c =
    let i = c.self.inside in
    let held = c.in-Some.held in
    let was : i.held ≡ Some held = cc in
    let before = subst (IsManaged i.translation i.rules i.live i.arrangement) was c.self.invariant.0 in
    let reverted : IsReverted i.live c.forget_all.new.live held =
    reverted_behind i.live c.take_back.new.live c.forget_all.new.live held c.take_back.ensures.live c.take_back.ensures.entries c.take_back.ensures.slots c.forget_all.ensures.live c.forget_all.ensures.kept c.forget_all.ensures.slots in
    let view : view_of i.placement i.translation i.rules i.live i.arrangement i.held ≡ c.args.self.now = c.self.view_is in
    let said : is_unwritten (view_of i.placement i.translation i.rules i.live i.arrangement i.held).held ≡ true = rw (← c.self.view_is) at c.requires in
    let here = subst (λ (h : Option Held). is_unwritten (view_of i.placement i.translation i.rules i.live i.arrangement h).held ≡ true) was said in
    let one = unwritten_parts held (sym (unwritten_is i.translation i.rules i.live i.arrangement held before) ∙ here) in
    let new = view_of i.placement i.translation i.rules c.forget_all.new.live i.arrangement None in
    let dropped : new ≡ cancelled true (view_of i.placement i.translation i.rules i.live i.arrangement i.held) =
    subst (λ (h : Option Held). new ≡ cancelled true (view_of i.placement i.translation i.rules i.live i.arrangement h)) (sym was)
    (dropped_view i.translation i.rules i.live c.forget_all.new.live i.arrangement held before (before.carried.way_back one.prepared) reverted i.placement one.none) in
    rw c.take.ensures.after (dropped ∙ ap (cancelled true) view)
