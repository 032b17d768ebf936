-- Steps keep words current.
use Rattle.std.specs.Prelude.{IfSome}
use Rattle.std.proofs.Common.{◌≡◌, ℕ, zero, suc, Bool, true, false, Option, Some, None, List, [], ◌∷◌, refl, sym, ◌∙◌, ap, subst}
use Rattle.tcam_device.specs.Insertion.{is_table_write}
use Rattle.commit_writes.specs.Bits.{FieldBits}
use Rattle.tcam_device.specs.declared.Action.{Action}
use Rattle.tcam_device.specs.declared.Action.TheVariants.{Written, Drained}
use Rattle.commit_writes.specs.InFlight.{ArePartOf}
use Rattle.commit_writes.proofs.Led.{part_of_part, same_part}
use Rattle.batch_order.specs.declared.Step.{Step}
use Rattle.batch_order.specs.declared.Step.TheVariants as step
use Rattle.batch_order.specs.Managed.{Managed, HeldCommit, Way, live_now}
use Rattle.batch_order.specs.Managed.Way.{On, Back}
use Rattle.batch_order.specs.Steps.{Steps, StepsOn, KeepsCurrent, current_by, is_back, left_by}
use Rattle.batch_order.specs.Turning.{has_drain, has_word, IsCurrentRight, StepsKeepCurrent, WritesLeaveCurrent}

-- a step that leaves words current for what they are now
keeps : (old : Managed) (made : Step) (new : Managed) → ArePartOf (live_now new) (live_now old) → KeepsCurrent old made new
keeps old (step.Wrote write) new part = part
keeps old (step.Finished counts) new part = part
keeps old step.Idle new part = part
keeps old step.Drained new part = tt
keeps old (step.Waiting words) new part = part
keeps old (step.Reverted undone) new part = part

-- what a step leaves is this
left_with : (old : Managed) (held : HeldCommit) (made : Step) (new next : Managed) → old.held ≡ Some held → new ≡ next → ArePartOf (live_now next) held.current → KeepsCurrent old made new
left_with old held made new next is same part =
    let live : live_now old ≡ held.current = ap (λ (h : Option HeldCommit). elim h [ None ↦ old.bits | Some x ↦ x.current ]) is in
    keeps old made new (subst (ArePartOf (live_now new)) (sym live) (subst (λ m. ArePartOf (live_now m) held.current) (sym same) part))

-- the end leaves them current: forward for what stays live of the ranges meanwhile, and back for those before the commit
ended : (old : Managed) (held : HeldCommit) (made : Step) (new : Managed) (one : Way) → old.held ≡ Some held → held.way ≡ one → held.actions ≡ [] → IsCurrentRight old.bits held
    → new ≡ left_by old held one → KeepsCurrent old made new
ended old held made new (On undo) is way rest right did =
    left_with old held made new _ is did (part_of_part held.bits held.during held.current right.left (right.drained (ap is_back way) (ap has_drain rest)))
ended old held made new (Back undone) is way rest right did = left_with old held made new _ is did right.least

less_then : (before current : FieldBits) (table : Bool) → ArePartOf before current → ArePartOf (current_by before current table) current
less_then before current true least = least
less_then before current false least = same_part current

steps_on : (old : Managed) (held : HeldCommit) (words : ℕ) (actions : List Action) (made : Step) (new : Managed) → old.held ≡ Some held → held.actions ≡ actions → IsCurrentRight old.bits held
    → StepsOn old held words actions made new → KeepsCurrent old made new
steps_on old held words [] made new is rest right did = ended old held made new held.way is refl rest right did.1
steps_on old held words (Written write ∷ actions) made new is rest right did =
    left_with old held made new _ is did.1 (less_then old.bits held.current (is_table_write write) right.least)
steps_on old held zero (Drained ∷ actions) made new is rest right did = subst (λ m. KeepsCurrent old m new) (sym did.0) tt
steps_on old held (suc words) (Drained ∷ actions) made new is rest right did =
    left_with old held made new old is did.1 (subst (λ h. ArePartOf (elim h [ None ↦ old.bits | Some x ↦ x.current ]) held.current) (sym is) (same_part held.current))

pub steps_keep_current : StepsKeepCurrent
steps_keep_current old words made new right did = go old.held refl right did
  where
    go : (held : Option HeldCommit) → old.held ≡ held → IfSome held (λ x. IsCurrentRight old.bits x) → Steps old words held made new → KeepsCurrent old made new
    go None is none idle = keeps old made new (subst (λ m. ArePartOf (live_now m) (live_now old)) (sym idle.1) (same_part (live_now old)))
    go (Some held) is right did = steps_on old held words held.actions made new is refl right did

-- On the way on a write leaves words current for what they were: a word of a table finds them so.
pub writes_leave_current : WritesLeaveCurrent
writes_leave_current before held write rest right forward are = go (is_table_write write) refl
  where
    go : (table : Bool) → is_table_write write ≡ table → current_by before held.current table ≡ held.current
    go true is = sym (right.words forward (ap has_word are ∙ ap (λ b. elim b [ true ↦ true | false ↦ has_word rest ]) is))
    go false is = refl
