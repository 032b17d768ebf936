-- A commit's undo writes are those of the writes that led to where it stands, so going back passes no other state.
use Rattle.std.proofs.Common.{◌≡◌, ◌-◌, ◌≤◌, Option, Some, None, List, [], ◌∷◌, ◌++◌, length, take, inl, inr, ◌⊎◌, refl, sym, ◌∙◌, ap, subst, arith}
use Rattle.std.specs.Prelude.{IfSome}
use Rattle.tcam_device.specs.declared.Write.{Write}
use Rattle.tcam_device.specs.State.{State, apply, state_after}
use Rattle.tcam_device.specs.Flight.{writes_in}
use Rattle.tcam_device.proofs.Spans.{state_after-append}
use Rattle.tcam_device.specs.declared.Action.{Action}
use Rattle.tcam_device.specs.declared.Action.TheVariants.{Written, Drained}
use Rattle.commit_writes.specs.Undo.{restoring, undo_writes}
use Rattle.commit_writes.proofs.Undone.{restored, undo_passes, undo_ends, length-undo_writes}
use Rattle.commit_writes.proofs.Actions.{undo-append}
use Rattle.batch_order.specs.Managed.{Managed, HeldCommit, Way}
use Rattle.batch_order.specs.Managed.Way.{On, Back}
use Rattle.batch_order.specs.Steps.{Steps, way_by}
use Rattle.batch_order.specs.Turning.{undo_in, undo_of}
use Rattle.batch_order.specs.Passed.{GoesBack, GoesBackFrom, HasWayBack, WayBackFrom, StepsKeepWayBack, GoesBackThroughStates}
use Rattle.batch_order.proofs.under_way.Stepped.{HasStepped, left_held, stepped}

-- some writes are none, or others and a last one
last_of : (writes : List Write) → (writes ≡ []) ⊎ ((front : List Write) × (last : Write) × (writes ≡ front ++ last ∷ []))
last_of [] = inl refl
last_of (write ∷ writes) = elim (last_of writes) [
  | inl none ↦ inr ([], write, ap (λ ws. write ∷ ws) none)
  | inr some ↦ inr (write ∷ some.0, some.1, ap (λ ws. write ∷ ws) some.2)
]

undo-last : (begun : State) (front : List Write) (last : Write) → undo_writes begun (front ++ last ∷ []) ≡ restoring (state_after begun front) last ∷ undo_writes begun front
undo-last begun front last = undo-append begun front (last ∷ [])

-- one write more
way_on : (begun state : State) (undo : List Write) (write : Write) → HasWayBack begun state undo → HasWayBack begun (apply state write) (restoring state write ∷ undo)
way_on begun state undo write way = record {
  made = way.made ++ write ∷ [];
  state_is = ap (λ s. apply s write) way.state_is ∙ sym (state_after-append begun way.made (write ∷ []));
  undo_is =
      ap (λ s. restoring s write ∷ undo) way.state_is ∙ ap (λ ws. restoring (state_after begun way.made) write ∷ ws) way.undo_is
      ∙ sym (undo-last begun way.made write);
}

-- one write less
way_back : (begun state : State) (write : Write) (undo : List Write) → HasWayBack begun state (write ∷ undo) → HasWayBack begun (apply state write) undo
way_back begun state write undo way = elim (last_of way.made) [
  | inl none ↦ absurd (let clash : write ∷ undo ≡ [] = way.undo_is ∙ ap (undo_writes begun) none in cc)
  | inr some ↦
      let same : write ∷ undo ≡ restoring (state_after begun some.0) some.1 ∷ undo_writes begun some.0 = way.undo_is ∙ ap (undo_writes begun) some.2 ∙ undo-last begun some.0 some.1 in
      let head : write ≡ restoring (state_after begun some.0) some.1 = cc in
      let tail : undo ≡ undo_writes begun some.0 = cc in
      let here : state ≡ apply (state_after begun some.0) some.1 = way.state_is ∙ ap (state_after begun) some.2 ∙ state_after-append begun some.0 (some.1 ∷ []) in
      record {
        made = some.0;
        state_is = ap (λ s. apply s write) here ∙ ap (apply (apply (state_after begun some.0) some.1)) head ∙ restored (state_after begun some.0) some.1;
        undo_is = tail;
      }
]

-- a commit that is still under way
with_held : (begun : State) (new next : Managed) → new ≡ next → WayBackFrom begun next → WayBackFrom begun new
with_held begun new next same way = subst (WayBackFrom begun) (sym same) way

-- a write made, either way
wrote : (begun : State) (state : State) (held : HeldCommit) (write : Write) (actions : List Action) (one : Way) → held.way ≡ one → held.actions ≡ Written write ∷ actions
    → HasWayBack begun state (undo_in held.actions one) → HasWayBack begun (apply state write) (undo_in actions (way_by state write one))
wrote begun state held write actions (On undo) is rest way = way_on begun state undo write way
wrote begun state held write actions (Back undone) is rest way = way_back begun state write (writes_in actions) (subst (λ xs. HasWayBack begun state (writes_in xs)) rest way)

drained : (begun : State) (state : State) (held : HeldCommit) (actions : List Action) (one : Way) → held.actions ≡ Drained ∷ actions
    → HasWayBack begun state (undo_in held.actions one) → HasWayBack begun state (undo_in actions one)
drained begun state held actions (On undo) rest way = way
drained begun state held actions (Back undone) rest way = subst (λ xs. HasWayBack begun state (writes_in xs)) rest way

pub steps_keep_way_back : StepsKeepWayBack
steps_keep_way_back begun old words made new way did = go old.held refl way did
  where
    go : (h : Option HeldCommit) → old.held ≡ h → IfSome h (λ held. HasWayBack begun old.state (undo_of held)) → Steps old words h made new → WayBackFrom begun new
    go None is way idle = with_held begun new old idle.1 (subst (λ h. IfSome h (λ held. HasWayBack begun old.state (undo_of held))) (sym is) way)
    go (Some held) is way on = by (stepped old words held made new on)
      where
        by : HasStepped old words held made new → WayBackFrom begun new
        by (HasStepped.End actions did is) = subst (λ h. IfSome h (λ x. HasWayBack begun new.state (undo_of x))) (sym (ap (λ (m : Managed). m.held) is ∙ left_held old held held.way)) tt
        by (HasStepped.Wrote write actions rest did is) = with_held begun new _ is (wrote begun old.state held write actions held.way refl rest way)
        by (HasStepped.Drain actions rest did is) = with_held begun new _ is (drained begun old.state held actions held.way rest way)
        by (HasStepped.Wait actions more rest flying did same) = with_held begun new old same (subst (λ h. IfSome h (λ x. HasWayBack begun old.state (undo_of x))) (sym is) way)

pub goes_back_through_states : GoesBackThroughStates
goes_back_through_states begun state undo way n below =
    let size = length-undo_writes begun way.made in
    let same = ap length way.undo_is in
    let less : n ≤ length way.made = omega arith in (
      way.made,
      length way.made - n,
      way.state_is,
      ap (λ s. state_after s (take n undo)) way.state_is ∙ ap (λ ws. state_after (state_after begun way.made) (take n ws)) way.undo_is
          ∙ sym (state_after-append begun way.made (take n (undo_writes begun way.made))) ∙ undo_passes begun way.made n less,
    )

pub goes_back : (begun : State) (manager : Managed) → WayBackFrom begun manager → GoesBackFrom begun manager
goes_back begun manager way = go manager.held way
  where
    go : (h : Option HeldCommit) → IfSome h (λ held. HasWayBack begun manager.state (undo_of held)) → IfSome h (λ held. GoesBack begun manager.state (undo_of held))
    go None way = tt
    go (Some held) way = record {
      passes = goes_back_through_states begun manager.state (undo_of held) way;
      ends = ap (λ s. state_after s (undo_of held)) way.state_is ∙ ap (state_after (state_after begun way.made)) way.undo_is
          ∙ sym (state_after-append begun way.made (undo_writes begun way.made)) ∙ undo_ends begun way.made;
    }
