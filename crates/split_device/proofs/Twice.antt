-- A write behind another one at the same place leaves what it leaves alone: so a write twice is that write once, also in its
-- time.
use Rattle.std.proofs.Common.{◌≡◌, ◌∙◌, ℕ, zero, suc, Bool, true, false, Option, None, Some, IsFalse, List, [], ◌∷◌, set, refl, ap}
use Rattle.std.specs.Prelude.{◌||◌, nat_eq}
use Rattle.slot_order.specs.Order.{slot}
use Rattle.rule_model.specs.declared.words.Word.{Word}
use Rattle.rule_model.specs.declared.Field.TheVariants.{Src, Dst}
use Rattle.split_device.specs.declared.SplitWrite.TheVariants.{Slot, Result, Table}
use Rattle.split_device.specs.declared.SplitWrite.{SplitWrite}
use Rattle.split_device.specs.State.{SplitState, split_apply}
use Rattle.split_device.specs.Drains.{SinceDrain, is_drain_due, is_erased, result_waits, since_write}
use Rattle.split_device.specs.Laws.{TwiceAsOnce, TwiceInTime}

pub set_set : {A : Type 0} (xs : List A) (i : ℕ) (a b : A) → set (set xs i a) i b ≡ set xs i b
set_set [] i a b = refl
set_set (x ∷ xs) zero a b = refl
set_set (x ∷ xs) (suc i) a b = ap (λ rest. x ∷ rest) (set_set xs i a b)

pub twice_as_once : TwiceAsOnce
twice_as_once state (Slot at parts) = ap (λ slots. let next : SplitState = record state { slots = slots } in next) (set_set state.slots at parts parts)
twice_as_once state (Result at tag answer) =
    ap (λ results. let next : SplitState = record state { results = results } in next) (set_set state.results at (tag, answer) (tag, answer))
twice_as_once state (Table Src port word) = ap (λ words. let next : SplitState = record state { src = words } in next) (set_set state.src port word word)
twice_as_once state (Table Dst port word) = ap (λ words. let next : SplitState = record state { dst = words } in next) (set_set state.dst port word word)

-- what waits twice waits once
both : (a b : Bool) → (a || (a || b)) ≡ (a || b)
both true b = refl
both false b = refl

waits_same : (since : SinceDrain) (at i : ℕ) (held : Option (Word × Word)) → result_waits (since_write (since_write since (Slot at None)) (Slot at None)) i held ≡ result_waits (since_write since (Slot at None)) i held
waits_same since at i None = both (nat_eq at i) (is_erased since i)
waits_same since at i (Some parts) = refl

due_later : (state : SplitState) (since : SinceDrain) (write later : SplitWrite)
    → is_drain_due (split_apply (split_apply state write) write) (since_write (since_write since write) write) later ≡ is_drain_due (split_apply state write) (since_write since write) later
due_later state since (Slot at None) (Slot i parts) = refl
due_later state since (Slot at None) (Table field port word) = refl
due_later state since (Slot at None) (Result i tag answer) =
    ap (λ (slots : List (Option (Word × Word))). since.bits || result_waits (since_write (since_write since (Slot at None)) (Slot at None)) i (slot slots i)) (set_set state.slots at None None)
    ∙ ap (λ b. since.bits || b) (waits_same since at i (slot (set state.slots at None) i))
due_later state since (Slot at (Some held)) (Slot i parts) = refl
due_later state since (Slot at (Some held)) (Table field port word) = refl
due_later state since (Slot at (Some held)) (Result i tag answer) =
    ap (λ (slots : List (Option (Word × Word))). since.bits || result_waits (since_write since (Slot at (Some held))) i (slot slots i)) (set_set state.slots at (Some held) (Some held))
due_later state since (Result at tag' answer') (Slot i parts) = refl
due_later state since (Result at tag' answer') (Table field port word) = refl
due_later state since (Result at tag' answer') (Result i tag answer) = refl
due_later state since (Table field port word) (Slot i parts) = refl
due_later state since (Table field port word) (Table field' port' word') = refl
due_later state since (Table field port word) (Result i tag answer) = refl

due_again : (state : SplitState) (since : SinceDrain) (write : SplitWrite) → IsFalse (is_drain_due state since write) → IsFalse (is_drain_due (split_apply state write) (since_write since write) write)
due_again state since (Slot at None) isnt = isnt
due_again state since (Slot at (Some held)) isnt = isnt
due_again state since (Result at tag answer) isnt = isnt
due_again state since (Table field port word) isnt = isnt

pub twice_in_time : TwiceInTime
twice_in_time state since write isnt = (due_again state since write isnt, due_later state since write)
