use Rattle.std.proofs.Common.{◌≡◌, false, [], List, Option, Some, None, drop, sym, ap, subst, ◌∙◌}
use Rattle.rule_model.specs.declared.Rule.{Rule}
use Rattle.commit_writes.specs.Actions.{with_drain}
use Rattle.batch_order.specs.declared.Step.TheVariants.{Finished}
use Rattle.batch_order.specs.declared.held.Held.{Held}
use Rattle.batch_order.specs.Kept.{IsManaged, held_of, held_writes, translated_by, translation_after, undo_left}
use Rattle.batch_order.specs.Managed.{Managed}
use Rattle.batch_order.specs.Steps.{IsAllMade, Steps, is_turned}
use Rattle.batch_order.specs.Undoing.{StandsAt}
use Rattle.batch_order.proofs.Told.{told_same}
use Rattle.batch_order.proofs.under_way.Carried.{view_of, managed_after, finish_steps, IsFinished}
use Rattle.batch_order.proofs.under_way.Left.{forward_actions, steps_as}
use Rattle.batch_order.proofs.under_way.Ways.{forward_way}
use Rattle.batch_order.proofs.manager.Manager.complete.Goals as goal

pub apply-requires-clause-sound : goal.apply-requires-clause-sound
apply-requires-clause-sound c =
    let was : c.self.inside.held ≡ Some c.in-Some.held = cc in
    let before = subst (IsManaged c.self.inside.translation c.self.inside.rules c.self.inside.live c.self.inside.arrangement) was c.self.invariant.0 in
    before.carried.sound

pub apply-requires-clause-room : goal.apply-requires-clause-room
apply-requires-clause-room c =
    let was : c.self.inside.held ≡ Some c.in-Some.held = cc in
    let before = subst (IsManaged c.self.inside.translation c.self.inside.rules c.self.inside.live c.self.inside.arrangement) was c.self.invariant.0 in
    before.carried.room

pub rewrite_all-requires : goal.rewrite_all-requires
rewrite_all-requires c =
    let was : c.self.inside.held ≡ Some c.in-Some.held = cc in
    let before = subst (IsManaged c.self.inside.translation c.self.inside.rules c.self.inside.live c.self.inside.arrangement) was c.self.invariant.0 in
    rw c.deref.ensures.value before.carried.changed

pub forget_each-requires-clause-distinct : goal.forget_each-requires-clause-distinct
forget_each-requires-clause-distinct c =
    let was : c.self.inside.held ≡ Some c.in-Some.held = cc in
    let before = subst (IsManaged c.self.inside.translation c.self.inside.rules c.self.inside.live c.self.inside.arrangement) was c.self.invariant.0 in
    rw c.deref-in-Some.ensures.value before.carried.once

pub forget_each-requires-clause-live : goal.forget_each-requires-clause-live
forget_each-requires-clause-live c =
    let was : c.self.inside.held ≡ Some c.in-Some.held = cc in
    let before = subst (IsManaged c.self.inside.translation c.self.inside.rules c.self.inside.live c.self.inside.arrangement) was c.self.invariant.0 in
    rw (c.deref-in-Some.ensures.value, c.rewrite_all.ensures.live) before.carried.gone

pub invariant_of-self-in-Some : goal.invariant_of-self-in-Some
invariant_of-self-in-Some c =
    let i = c.self.inside in
    let held = c.in-Some.held in
    let was : i.held ≡ Some held = cc in
    let before = subst (IsManaged i.translation i.rules i.live i.arrangement) was c.self.invariant.0 in
    let finished : IsFinished i.live c.forget_each.new.self held = record {
      live = rw (← c.deref-in-Some.ensures.value, ← c.rewrite_all.ensures.live) c.forget_each.ensures.live;
      entries = rw (← c.deref.ensures.value, ← c.rewrite_all.ensures.entries) c.forget_each.ensures.kept;
      slots = c.forget_each.ensures.slots ∙ c.rewrite_all.ensures.slots;
    } in
    let turned : c.translate.new.translation ≡ translation_after i.translation i.rules.rules i.live.entries held =
    c.translate.ensures i.live.entries held.rewrites.items
    ∙ ap (λ (rules : List Rule). translated_by i.translation held.bits rules (held_writes i.live.entries held)) c.apply.ensures.rules in
    let stands = subst (StandsAt i.arrangement i.planned) was c.self.invariant.1 in
    rw c.take.ensures.after (
      managed_after i.translation c.translate.new.translation i.rules c.apply.new.self i.live c.forget_each.new.self i.arrangement held before turned c.apply.ensures.rules finished,
      stands.0,
      c.forget_each.ensures.told i.planned (told_same i.live c.rewrite_all.new.self i.planned c.rewrite_all.ensures.live c.rewrite_all.ensures.told c.self.invariant.2),
    )

pub returns-in-Some : goal.returns-in-Some
returns-in-Some c words =
    let i = c.self.inside in
    let held = c.in-Some.held in
    let was : i.held ≡ Some held = cc in
    let before = subst (IsManaged i.translation i.rules i.live i.arrangement) was c.self.invariant.0 in
    let finished : IsFinished i.live c.forget_each.new.self held = record {
      live = rw (← c.deref-in-Some.ensures.value, ← c.rewrite_all.ensures.live) c.forget_each.ensures.live;
      entries = rw (← c.deref.ensures.value, ← c.rewrite_all.ensures.entries) c.forget_each.ensures.kept;
      slots = c.forget_each.ensures.slots ∙ c.rewrite_all.ensures.slots;
    } in
    let turned : c.translate.new.translation ≡ translation_after i.translation i.rules.rules i.live.entries held =
    c.translate.ensures i.live.entries held.rewrites.items
    ∙ ap (λ (rules : List Rule). translated_by i.translation held.bits rules (held_writes i.live.entries held)) c.apply.ensures.rules in
    let view : view_of i.placement i.translation i.rules i.live i.arrangement i.held ≡ c.args.self.now = c.self.view_is in
    let requires : IsAllMade (view_of i.placement i.translation i.rules i.live i.arrangement i.held).held = rw (← c.self.view_is) at c.requires.made in
    let straight : is_turned (view_of i.placement i.translation i.rules i.live i.arrangement i.held).held ≡ false = rw (← c.self.view_is) at c.requires.forward in
    let forward : held.turned ≡ None = forward_way held.turned (undo_left i.translation i.arrangement i.live.entries held) (subst (λ (h : Option Held). is_turned (view_of i.placement i.translation i.rules i.live i.arrangement h).held ≡ false) was straight) in
    let none : with_drain held.awaits (drop held.made (held_writes i.live.entries held)) ≡ [] =
    sym (forward_actions i.translation i.rules i.live i.arrangement held forward) ∙ subst (λ (h : Option Held). IsAllMade (view_of i.placement i.translation i.rules i.live i.arrangement h).held) was requires in
    let new = view_of i.placement c.translate.new.translation c.apply.new.self c.forget_each.new.self held.arrangement None in
    let steps : Steps (view_of i.placement i.translation i.rules i.live i.arrangement i.held) words (view_of i.placement i.translation i.rules i.live i.arrangement i.held).held (Finished held.counts) new =
    subst (λ (h : Option Held). Steps (view_of i.placement i.translation i.rules i.live i.arrangement h) words (view_of i.placement i.translation i.rules i.live i.arrangement h).held (Finished held.counts) new) (sym was)
    (steps_as (view_of i.placement i.translation i.rules i.live i.arrangement (Some held)) (held_of i.translation i.arrangement i.rules.rules i.live.entries held) words (with_drain held.awaits (drop held.made (held_writes i.live.entries held))) (Finished held.counts) new
    (forward_actions i.translation i.rules i.live i.arrangement held forward)
    (finish_steps i.translation c.translate.new.translation i.rules c.apply.new.self i.live c.forget_each.new.self i.arrangement held before turned c.apply.ensures.rules finished i.placement words forward none)) in
    rw c.take.ensures.after (subst (λ (old : Managed). Steps old words old.held (Finished held.counts) new) view steps)
