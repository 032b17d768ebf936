-- What the manager's calls keep of a manager and its device.
use Rattle.std.proofs.Common.{◌≡◌, ℕ, ◌≤◌, Bool, false, List, [], Result, Ok, Err, OnOk, OnErr, Option, Some, None, ◌⊎◌, inl, inr, refl, sym, subst, ◌∙◌, arith}
use Rattle.std.specs.Prelude.{◌↔◌, IfOk, IsTrue}
use Rattle.std.proofs.lemmas.Bool.{both_ways}
use Rattle.rule_model.specs.declared.Key.{Key}
use Rattle.rule_model.specs.Key.{IsKey}
use Rattle.rule_model.specs.RuleSet.{Answer, answer}
use Rattle.rule_store.specs.declared.Mode.{Mode}
use Rattle.rule_store.specs.declared.Mode.TheVariants.{Bits, Cover}
use Rattle.rule_store.specs.declared.Command.{Command}
use Rattle.rule_store.specs.Batch.{set_after}
use Rattle.tcam_device.specs.declared.DeviceFault.{DeviceFault}
use Rattle.tcam_device.specs.State.{Shows, State, blank, lookup, on_device}
use Rattle.tcam_device.specs.View.{DeviceView, HasMade, IsSameButSpare, IsUntouched, device_state, journal}
use Rattle.commit_writes.specs.declared.Done.{Done}
use Rattle.readback.specs.declared.Parts.{Parts}
use Rattle.batch_order.specs.declared.Placement.{Placement}
use Rattle.batch_order.specs.declared.AbortFault.{AbortFault}
use Rattle.batch_order.specs.declared.Step.{Step}
use Rattle.batch_order.specs.declared.Unfinished.{Unfinished}
use Rattle.batch_order.specs.declared.restarting.fault.RestartFault.{RestartFault}
use Rattle.batch_order.specs.Managed.{HasBlankTables, HeldCommit, Holds, IsOn, Managed, Serves, fresh}
use Rattle.batch_order.specs.Steps.{Aborts, actions_of}
use Rattle.batch_order.specs.CarriedOut.{HasRoomBothWays, ahead, ahead_of, finished}
use Rattle.batch_order.specs.Laws.{StepLeaves}
use Rattle.batch_order.specs.Restart.{AnswersRestart}
use Rattle.batch_order.proofs.Leaving.{carrying_takes_rules, turns_leave}
use Rattle.driven_device.specs.declared.RestartedFault.TheVariants.{Restart}
use Rattle.driven_device.specs.Driven.{CanHave, IsDriven, IsRestartedFault}

-- with the slots in use and the room kept, a device that still holds what its manager takes it to hold is driven
keeps : (old new : Managed) (before after : DeviceView) → IsDriven old before → StepLeaves old new before.spare after.spare
    → after.slots ≡ before.slots → IsOn after.slots (journal after) new → IsDriven new after
keeps old new before after was leaves slots on =
    let in_use = was.slots_in_use in
    let same = leaves.slots in
    record {
      slots_in_use = omega arith;
      room = leaves.both_ways was.room;
      on = on;
    }

-- who is told that there can't be so many slots
pub can_not : (can : Bool) (slots told device_slots : ℕ) → (IsTrue can ↔ CanHave slots told) → told ≡ device_slots → can ≡ false → ¬ CanHave slots device_slots
can_not can slots told device_slots decides is denied has = both_ways can denied (decides.1 (subst (CanHave slots) (sym is) has))

-- who is told that by covers a table has words
pub has_words : (takes : Bool) (mode : Mode) (state : State) → (IsTrue takes ↔ (mode ≡ Cover → HasBlankTables state)) → takes ≡ false
    → (mode ≡ Cover) × ¬ HasBlankTables state
has_words takes Cover state decides denied = (refl, λ blank. both_ways takes denied (decides.1 (λ covers. blank)))
has_words takes Bits state decides denied =
    absurd (both_ways takes denied (decides.1 (λ covers. absurd (let clash : Bits ≡ Cover = covers in cc))))

-- a new manager is driven on a blank device
pub begun : (slots : ℕ) (mode : Mode) (placement : Placement) (manager : Managed) (device : DeviceView) → manager ≡ fresh slots mode placement
    → ((device_slots : ℕ) → slots ≤ device_slots → IsOn device_slots [] manager) → device_state device ≡ blank device.slots → slots ≤ device.slots
    → IsDriven manager device
begun slots mode placement manager device new on empty wide = record {
  slots_in_use = subst (λ (m : Managed). m.slots ≤ device.slots) (sym new) wide;
  room = subst (λ (m : Managed). HasRoomBothWays m.held device.spare) (sym new) tt;
  on = on device.slots wide ∙ sym empty;
}

pub stepped : (old new : Managed) (before after : DeviceView) (result : Result Step DeviceFault) → IsDriven old before
    → StepLeaves old new before.spare after.spare → IfOk result (λ step. HasMade (actions_of step) before after) → OnErr result (IsUntouched before after)
    → (IsOn before.slots (journal before) old → IsOn after.slots (journal after) new) → IsDriven new after
stepped old new before after (Ok step) was leaves made unmade stays = keeps old new before after was leaves made.slots (stays was.on)
stepped old new before after (Err fault) was leaves made unmade stays = keeps old new before after was leaves unmade.slots (stays was.on)

-- what is planned or carried out leaves the device its slots
pub kept : (old new : Managed) (before after : DeviceView) → IsDriven old before → StepLeaves old new before.spare after.spare
    → after.slots ≡ before.slots → (IsOn before.slots (journal before) old → IsOn after.slots (journal after) new) → IsDriven new after
kept old new before after was leaves slots stays = keeps old new before after was leaves slots (stays was.on)

-- the rules of a commit that has come to its end
pub takes_rules : (old new : Managed) (result : Result Done Unfinished) → OnOk result (new ≡ finished old)
    → OnOk result ((was : Managed) → (batch : List Command) → (counts : Done) → Holds was batch counts old → new.rules ≡ set_after was.rules batch)
takes_rules old new (Ok done) ends = λ was batch counts holds. carrying_takes_rules was old new batch counts holds ends
takes_rules old new (Err halt) ends = tt

pub aborted : (old new : Managed) (device : DeviceView) (result : Result ℕ AbortFault) → IsDriven old device → Aborts old old.held result new
    → IsDriven new device
aborted old new device result was did =
    let leaves = turns_leave old new result did in
    let in_use = was.slots_in_use in
    let same = leaves.slots in
    record {
      slots_in_use = omega arith;
      room = leaves.both_ways device.spare was.room;
      on = subst (λ (s : State). on_device device.slots s ≡ device_state device) (sym leaves.state) was.on;
    }

-- one that goes on with a commit is driven on the device that it was made over
pub resumed : (slots : ℕ) (mode : Mode) (placement : Placement) (parts : Parts) (batch : List Command) (before after : DeviceView) (manager : Managed)
    → AnswersRestart slots mode placement parts batch before.slots (device_state before) (Ok manager) → IsSameButSpare before after
    → slots ≤ before.slots → HasRoomBothWays manager.held after.spare → IsOn after.slots (journal after) manager → IsDriven manager after
resumed slots mode placement parts batch before after manager answers others wide room on =
    let same = others.slots in
    let wide_now : slots ≤ after.slots = omega arith in
    record {
      slots_in_use = subst (λ (m : Managed). m.slots ≤ after.slots) (sym answers.1.new_is) wide_now;
      room = room;
      on = on;
    }

-- where the manager's restart is refused, so it is told
pub refused : (slots : ℕ) (mode : Mode) (placement : Placement) (parts : Parts) (batch : List Command) (device : DeviceView) (fault : RestartFault) (back : Parts)
    → CanHave slots device.slots → (mode ≡ Cover → HasBlankTables (device_state device))
    → AnswersRestart slots mode placement parts batch device.slots (device_state device) (Err (fault, back))
    → IsRestartedFault slots mode placement parts batch device (Restart fault)
refused slots mode placement parts batch device fault back can plain answers = (can, plain, (refl, answers.1, answers.2))

-- a manager serves the device that it drives
pub served : (manager : Managed) (device : DeviceView) → IsDriven manager device
    → ((device_slots : ℕ) → manager.slots ≤ device_slots → Serves (on_device device_slots manager.state) manager.rules manager.held)
    → Serves (device_state device) manager.rules manager.held
served manager device driven serving =
    subst (λ (s : State). Serves s manager.rules manager.held) driven.on (serving device.slots driven.slots_in_use)

-- and the device's tables are those that the manager takes it to have
pub plain_on : (manager : Managed) (device : DeviceView) → IsDriven manager device → HasBlankTables manager.state → HasBlankTables (device_state device)
plain_on manager device driven plain =
    subst HasBlankTables driven.on (record { src = plain.src; dst = plain.dst })

-- what a look-up answers of a device that serves the rules
pub answers_rules : (manager : Managed) (device : DeviceView) (key : Key) (found : Answer) → IsKey key
    → Serves (device_state device) manager.rules manager.held → found ≡ lookup (device_state device) key
    → manager.held ≡ None → found ≡ answer manager.rules key
answers_rules manager device key found valid serves is idle =
    let shows : Shows (device_state device) manager.rules =
    subst (λ (h : Option HeldCommit). Serves (device_state device) manager.rules h) idle serves in
    is ∙ shows key valid

pub answers_old_or_new : (manager : Managed) (device : DeviceView) (key : Key) (found : Answer) → IsKey key
    → Serves (device_state device) manager.rules manager.held → found ≡ lookup (device_state device) key
    → (found ≡ answer manager.rules key) ⊎ (found ≡ answer (ahead manager) key)
answers_old_or_new manager device key found valid serves is = go manager.held serves
  where
    either : (held : HeldCommit)
        → (lookup (device_state device) key ≡ answer manager.rules key) ⊎ (lookup (device_state device) key ≡ answer held.rules key)
        → (found ≡ answer manager.rules key) ⊎ (found ≡ answer held.rules key)
    either held (inl old) = inl (is ∙ old)
    either held (inr new) = inr (is ∙ new)

    go : (h : Option HeldCommit) → Serves (device_state device) manager.rules h
        → (found ≡ answer manager.rules key) ⊎ (found ≡ answer (ahead_of h manager.rules) key)
    go None shows = inl (is ∙ shows key valid)
    go (Some held) shows = either held (shows key valid)

-- and the rules' answer of a manager with no commit under way is the device's
pub answers_device : (manager : Managed) (device : DeviceView) (key : Key) (found : Answer) → IsKey key
    → Serves (device_state device) manager.rules manager.held → found ≡ answer manager.rules key
    → manager.held ≡ None → found ≡ lookup (device_state device) key
answers_device manager device key found valid serves is idle =
    let shows : Shows (device_state device) manager.rules =
    subst (λ (h : Option HeldCommit). Serves (device_state device) manager.rules h) idle serves in
    is ∙ sym (shows key valid)
