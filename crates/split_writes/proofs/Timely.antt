-- A drain before each write for which one is due: the writes are the same, and each stands in its time.
use Rattle.std.proofs.Common.{◌≡◌, Bool, true, false, Option, None, Some, List, [], ◌∷◌, refl, ap}
use Rattle.slot_order.specs.Order.{slot}
use Rattle.rule_model.specs.declared.words.Word.{Word}
use Rattle.split_device.specs.declared.SplitWrite.{SplitWrite}
use Rattle.split_device.specs.declared.SplitWrite.TheVariants.{Slot, Result, Table}
use Rattle.split_device.specs.State.{SplitState, split_apply}
use Rattle.split_device.specs.declared.SplitAction.{SplitAction}
use Rattle.split_device.specs.declared.SplitAction.TheVariants.{Written, Drained}
use Rattle.split_device.specs.Flight.{written}
use Rattle.split_device.specs.Drains.{SinceDrain, nothing_since, since_write, result_waits, is_drain_due, AreTimely, with_drains}

-- right behind a drain none is due
none_due : (state : SplitState) (write : SplitWrite) → is_drain_due state nothing_since write ≡ false
none_due state (Slot at parts) = refl
none_due state (Table field port word) = refl
none_due state (Result at tag answer) = here (slot state.slots at)
  where
    here : (held : Option (Word × Word)) → result_waits nothing_since at held ≡ false
    here None = refl
    here (Some parts) = refl

abbrev drained_if : Bool → SplitState → SinceDrain → SplitWrite → List SplitWrite → List SplitAction
drained_if due state since write writes =
    elim due [
      | true ↦ Drained ∷ Written write ∷ with_drains (split_apply state write) (since_write nothing_since write) writes
      | false ↦ Written write ∷ with_drains (split_apply state write) (since_write since write) writes
    ]

-- the writes among them are the writes
written_by : (due : Bool) (state : SplitState) (since : SinceDrain) (write : SplitWrite) (writes : List SplitWrite)
    → ((next : SplitState) (later : SinceDrain) → written (with_drains next later writes) ≡ writes) → written (drained_if due state since write writes) ≡ write ∷ writes
written_by true state since write writes more = ap (λ rest. write ∷ rest) (more (split_apply state write) (since_write nothing_since write))
written_by false state since write writes more = ap (λ rest. write ∷ rest) (more (split_apply state write) (since_write since write))

pub written_with_drains : (state : SplitState) (since : SinceDrain) (writes : List SplitWrite) → written (with_drains state since writes) ≡ writes
written_with_drains state since [] = refl
written_with_drains state since (write ∷ writes) =
    written_by (is_drain_due state since write) state since write writes (λ next later. written_with_drains next later writes)

-- each stands in its time
timely_by : (due : Bool) (state : SplitState) (since : SinceDrain) (write : SplitWrite) (writes : List SplitWrite)
    → ((next : SplitState) (later : SinceDrain) → AreTimely next later (with_drains next later writes)) → is_drain_due state since write ≡ due
    → AreTimely state since (drained_if due state since write writes)
timely_by true state since write writes more e = (none_due state write, more (split_apply state write) (since_write nothing_since write))
timely_by false state since write writes more e = (e, more (split_apply state write) (since_write since write))

pub timely_with_drains : (state : SplitState) (since : SinceDrain) (writes : List SplitWrite) → AreTimely state since (with_drains state since writes)
timely_with_drains state since [] = tt
timely_with_drains state since (write ∷ writes) =
    timely_by (is_drain_due state since write) state since write writes (λ next later. timely_with_drains next later writes) refl
