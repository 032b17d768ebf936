-- The undo writes that are kept lead to the state in which the commit began.
use Rattle.std.proofs.Common.{◌≡◌, ℕ, zero, suc, Option, Some, None, List, [], ◌∷◌, refl, sym, ◌∙◌, ap, subst}
use Rattle.tcam_device.specs.declared.Write.{Write}
use Rattle.tcam_device.specs.State.{State, apply, state_after}
use Rattle.tcam_device.specs.Flight.{writes_in}
use Rattle.tcam_device.specs.declared.Action.{Action}
use Rattle.tcam_device.specs.declared.Action.TheVariants.{Written, Drained}
use Rattle.commit_writes.proofs.Undone.{restored}
use Rattle.batch_order.specs.declared.Step.{Step}
use Rattle.batch_order.specs.declared.Step.TheVariants as step
use Rattle.batch_order.specs.Managed.{Managed, HeldCommit, Way}
use Rattle.batch_order.specs.Managed.Way.{On, Back}
use Rattle.batch_order.specs.Steps.{Steps, StepsOn, end_answer, left_by, way_by}
use Rattle.batch_order.specs.Turning.{begun_in, undo_in, undo_of, IsStillUnderWay, StepsKeepTheWayBack, RevertsToTheOldState}
use Rattle.batch_order.proofs.under_way.Stepped.{left_held}

-- where a held commit began
begun_is : (manager : Managed) (held : HeldCommit) → manager.held ≡ Some held → begun_in manager ≡ state_after manager.state (undo_of held)
begun_is manager held is = ap (λ (h : Option HeldCommit). elim h [ None ↦ manager.state | Some x ↦ state_after manager.state (undo_of x) ]) is

none_under_way : (manager : Managed) (h : Option HeldCommit) → manager.held ≡ h → h ≡ None → IsStillUnderWay manager → ⊥
none_under_way manager h is none under = let clash : Some under.0 ≡ None = sym under.1 ∙ is ∙ none in cc

-- a write made, on or back, leaves where the undo writes lead to
wrote : (state : State) (write : Write) (actions : List Action) (one : Way)
    → state_after (apply state write) (undo_in actions (way_by state write one)) ≡ state_after state (undo_in (Written write ∷ actions) one)
wrote state write actions (On undo) = ap (λ s. state_after s undo) (restored state write)
wrote state write actions (Back undone) = refl

-- and so does the drain
drained : (state : State) (actions : List Action) (one : Way) → state_after state (undo_in actions one) ≡ state_after state (undo_in (Drained ∷ actions) one)
drained state actions (On undo) = refl
drained state actions (Back undone) = refl

steps_on : (old : Managed) (held : HeldCommit) (words : ℕ) (actions : List Action) (made : Step) (new : Managed) → old.held ≡ Some held → held.actions ≡ actions
    → StepsOn old held words actions made new → IsStillUnderWay new → begun_in new ≡ begun_in old
steps_on old held words [] made new is rest did under =
    absurd (none_under_way new None (ap (λ (m : Managed). m.held) did.1 ∙ left_held old held held.way) refl under)
steps_on old held words (Written write ∷ actions) made new is rest did under =
    ap begun_in did.1 ∙ wrote old.state write actions held.way ∙ ap (λ xs. state_after old.state (undo_in xs held.way)) (sym rest) ∙ sym (begun_is old held is)
steps_on old held zero (Drained ∷ actions) made new is rest did under =
    ap begun_in did.1 ∙ drained old.state actions held.way ∙ ap (λ xs. state_after old.state (undo_in xs held.way)) (sym rest) ∙ sym (begun_is old held is)
steps_on old held (suc words) (Drained ∷ actions) made new is rest did under = ap begun_in did.1

pub steps_keep_the_way_back : StepsKeepTheWayBack
steps_keep_the_way_back old words made new under did after =
    steps_on old under.0 words under.0.actions made new under.1 refl (subst (λ h. Steps old words h made new) under.1 did) after

-- a commit that was taken back is what ends so
record EndsBack (old : Managed) (held : HeldCommit) (new : Managed) : Type 0 where
  none : undo_of held ≡ []
  new_is : new ≡ record old { held = None }

ended_back : (old : Managed) (held : HeldCommit) (undone : ℕ) (new : Managed) (one : Way) → held.way ≡ one → held.actions ≡ []
    → step.Reverted undone ≡ end_answer one held.counts → new ≡ left_by old held one → EndsBack old held new
ended_back old held undone new (On undo) way rest made did = absurd (let clash = made in cc)
ended_back old held undone new (Back all) way rest made did =
    record { none = ap (undo_in held.actions) way ∙ ap writes_in rest; new_is = did }

ends_back : (old : Managed) (held : HeldCommit) (words : ℕ) (actions : List Action) (undone : ℕ) (new : Managed) → held.actions ≡ actions
    → StepsOn old held words actions (step.Reverted undone) new → EndsBack old held new
ends_back old held words [] undone new rest did = ended_back old held undone new held.way refl rest did.0 did.1
ends_back old held words (Written write ∷ actions) undone new rest did = absurd (let clash = did.0 in cc)
ends_back old held zero (Drained ∷ actions) undone new rest did = absurd (let clash = did.0 in cc)
ends_back old held (suc words) (Drained ∷ actions) undone new rest did = absurd (let clash = did.0 in cc)

pub reverts_to_the_old_state : RevertsToTheOldState
reverts_to_the_old_state old words undone new did = go old.held refl did
  where
    go : (h : Option HeldCommit) → old.held ≡ h → Steps old words h (step.Reverted undone) new
        → (new.state ≡ begun_in old) × (new.rules ≡ old.rules) × (new.bits ≡ old.bits) × (new.held ≡ None)
    go None is did = absurd (let clash = did.0 in cc)
    go (Some held) is did =
        let w = ends_back old held words held.actions undone new refl did in
        let same = w.new_is in
        let began : begun_in old ≡ old.state = begun_is old held is ∙ ap (state_after old.state) w.none in
        (ap (λ (m : Managed). m.state) same ∙ sym began, ap (λ (m : Managed). m.rules) same, ap (λ (m : Managed). m.bits) same, ap (λ (m : Managed). m.held) same)
