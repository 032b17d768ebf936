-- What is due of a commit, there and back.
use Rattle.std.proofs.Common.{◌≡◌, ◌≢◌, ℕ, zero, suc, ◌≤◌, Bool, true, false, List, [], ◌∷◌, length, Option, Some, None, refl, sym, ◌∙◌, ap, arith}
use Rattle.std.specs.Prelude.{option_map, IfSome, IsSome}
use Rattle.tcam_device.specs.declared.Write.{Write}
use Rattle.tcam_device.specs.declared.Action.{Action}
use Rattle.tcam_device.specs.declared.Action.TheVariants.{Written, Drained}
use Rattle.tcam_device.specs.Flight.{writes_in}
use Rattle.batch_order.specs.declared.Step.{Step}
use Rattle.batch_order.specs.declared.Step.TheVariants as step
use Rattle.batch_order.specs.Managed.{Managed, HeldCommit}
use Rattle.batch_order.specs.CarriedOut.{GoesForward}
use Rattle.batch_order.specs.Steps.{KeepsCurrent, Steps, StepsOn, actions_of, awaits_drain, due_write, is_back, is_drain_next, next_of}
use Rattle.batch_order.specs.Turning.{IsCurrentRight, IsHeldRight, has_drain}
use Rattle.batch_order.proofs.under_way.Stepped.{no_actions}
use Rattle.tcam_c.specs.declared.steps.DueKind.TheVariants as kind
use Rattle.tcam_c.specs.Driven.{HasDue, IsDue, KeepsLive, KeepsWords, due_actions, due_of, first_action, kind_of_due, settled_by, settled_of, stepped_of, stepped_on}

-- a drain is due of no commit that is turned round
first_drain : (actions : List Action) → first_action actions ≡ Some Drained → has_drain actions ≡ true
first_drain [] is = absurd (cc)
first_drain (Written write ∷ actions) is = absurd (cc)
first_drain (Drained ∷ actions) is = refl

pub drain_forward : (manager : Managed) → IsHeldRight manager → due_of manager.held ≡ Some Drained → GoesForward manager.held
drain_forward manager right is = go manager.held right is
  where
    go : (held : Option HeldCommit) → IfSome held (λ one. IsCurrentRight manager.bits one) → due_of held ≡ Some Drained → GoesForward held
    go None right is = tt
    go (Some held) right is = by (is_back held.way) refl
      where
        by : (back : Bool) → is_back held.way ≡ back → is_back held.way ≡ false
        by false way = way
        by true way = absurd (let clash : false ≡ true = sym (right.undrained way) ∙ first_drain held.actions is in cc)

-- the next write is due
write_first : (actions : List Action) (write : Write) → due_write actions ≡ Some write → first_action actions ≡ Some (Written write)
write_first [] write is = absurd (cc)
write_first (Written other ∷ actions) write is = cc
write_first (Drained ∷ actions) write is = absurd (cc)

pub write_due : (held : Option HeldCommit) (write : Write) → next_of held ≡ Some write → due_of held ≡ Some (Written write)
write_due None write is = absurd (cc)
write_due (Some held) write is = write_first held.actions write is

-- and the other way round
first_write : (actions : List Action) (write : Write) → first_action actions ≡ Some (Written write) → due_write actions ≡ Some write
first_write [] write is = absurd (cc)
first_write (Written other ∷ actions) write is = cc
first_write (Drained ∷ actions) write is = absurd (cc)

pub due_next : (held : Option HeldCommit) (write : Write) → due_of held ≡ Some (Written write) → next_of held ≡ Some write
due_next None write is = absurd (cc)
due_next (Some held) write is = first_write held.actions write is

-- with writes left and no drain next a write is due
pub some_left : (held : Option HeldCommit) (left : ℕ) → awaits_drain held ≡ false → Some left ≡ option_map (λ one. length (writes_in one.actions)) held → left ≢ 0
    → kind.Write ≡ kind_of_due (due_of held)
some_left None left still is some = absurd (cc)
some_left (Some held) left still is some = go held.actions still is
  where
    go : (actions : List Action) → is_drain_next actions ≡ false → Some left ≡ Some (length (writes_in actions)) → kind.Write ≡ kind_of_due (first_action actions)
    go [] still is = absurd (let none : left ≡ 0 = cc in some none)
    go (Written write ∷ actions) still is = refl
    go (Drained ∷ actions) still is = absurd (cc)

-- and so the number that is left says it
pub left_due : (held : Option HeldCommit) (told : Option ℕ) → told ≡ option_map (λ one. length (writes_in one.actions)) held → awaits_drain held ≡ false → told ≢ None → told ≢ Some 0
    → kind.Write ≡ kind_of_due (due_of held)
left_due held None is still some more = absurd (some refl)
left_due held (Some left) is still some more = some_left held left still is (λ none. more (ap (λ (n : ℕ). Some n) none))

-- with something due a commit doesn't end
due_stays : (actions : List Action) (held : HeldCommit) (manager : Managed) → ¬ (first_action actions ≡ None) → settled_by actions held manager ≡ manager
due_stays [] held manager some = absurd (some refl)
due_stays (action ∷ actions) held manager some = refl

pub due_settles : (held : Option HeldCommit) (manager : Managed) → ¬ (due_of held ≡ None) → settled_of held manager ≡ manager
due_settles None manager some = absurd (some refl)
due_settles (Some held) manager some = due_stays held.actions held manager some

some_due : (actions : List Action) → ¬ (first_action actions ≡ None) → 1 ≤ length actions
some_due [] some = absurd (some refl)
some_due (action ∷ actions) some = omega arith

pub has_due : (held : Option HeldCommit) → ¬ (due_of held ≡ None) → HasDue held
has_due None some = tt
has_due (Some held) some = some_due held.actions some

-- what a step makes is what was due, and leaves what comes behind it
pub step_made : (old new : Managed) (words : ℕ) (made : Step) (held : Option HeldCommit) → words ≡ 0 → Steps old words held made new
    → (actions_of made ≡ due_actions (due_of held)) × (new ≡ stepped_of held old)
step_made old new words made None still did = (ap actions_of did.0, did.1)
step_made old new words made (Some held) still did = go words held.actions still did
  where
    go : (flying : ℕ) (actions : List Action) → flying ≡ 0 → StepsOn old held flying actions made new
        → (actions_of made ≡ due_actions (first_action actions)) × (new ≡ stepped_on actions held old)
    go flying [] none did = (ap actions_of did.0 ∙ no_actions held.way held, did.1)
    go flying (Written write ∷ actions) none did = (ap actions_of did.0, did.1)
    go zero (Drained ∷ actions) none did = (ap actions_of did.0, did.1)
    go (suc flying) (Drained ∷ actions) none did = absurd (cc)

-- it leaves words current unless it drains
keeps_live : (old new : Managed) (made : Step) → KeepsCurrent old made new → (actions_of made ≡ Drained ∷ [] → ⊥) → KeepsLive old new
keeps_live old new (step.Wrote write) keeps not = keeps
keeps_live old new (step.Finished counts) keeps not = keeps
keeps_live old new step.Idle keeps not = keeps
keeps_live old new step.Drained keeps not = absurd (not refl)
keeps_live old new (step.Waiting words) keeps not = keeps
keeps_live old new (step.Reverted undone) keeps not = keeps

pub keeps_words : (old new : Managed) (made : Step) (due : Option Action) → actions_of made ≡ due_actions due → KeepsCurrent old made new → KeepsWords due old new
keeps_words old new made None is keeps = keeps_live old new made keeps (λ drained. let clash : Drained ∷ [] ≡ [] = sym drained ∙ is in cc)
keeps_words old new made (Some (Written write)) is keeps = keeps_live old new made keeps (λ drained. let clash : Drained ∷ [] ≡ Written write ∷ [] = sym drained ∙ is in cc)
keeps_words old new made (Some Drained) is keeps = tt

-- what isn't nothing is something
pub some_kind : (due : Option Action) → IsDue (kind_of_due due) → IsSome due
some_kind None some = absurd (some)
some_kind (Some (Written write)) some = refl
some_kind (Some Drained) some = refl
