-- Look-ups that were searched and wait for their read, as they are where each write stood in its time.
use Rattle.std.specs.Prelude.{◌≡◌, ℕ, false, IsTrue, Some, None, List, Contains}
use Rattle.std.specs.List.{AllByRecursion}
use Rattle.slot_order.specs.Order.{slot}
use Rattle.split_device.specs.State.{SplitState, key_slot, read_at, split_lookup}
use Rattle.split_device.specs.Flight.{Look}
use Rattle.split_device.specs.Drains.{SinceDrain, is_erased}

-- What is known of one that waits.
pub record IsWaiting (state : SplitState) (since : SinceDrain) (look : Look) : Type 0 where
  -- what would be read now is what an undivided look-up answered at one of its moments;
  pub told : (moment : SplitState) × Contains look.moments moment × (split_lookup moment look.key ≡ read_at state.results look.slot)
  -- a slot that was found and is empty was erased since the last drain;
  pub gone : (at : ℕ) → look.slot ≡ Some at → slot state.slots at ≡ None → IsTrue (is_erased since at)
  -- and as long as no slot and no bit changed since, the key finds the slot
  pub still : (at : ℕ) → look.slot ≡ Some at → since.slots ≡ false → since.bits ≡ false → key_slot state look.key ≡ Some at

-- all that wait: nothing is asked where none does
abbrev pub AreWaiting : SplitState → SinceDrain → List Look → Type 0
AreWaiting state since looks = AllByRecursion (IsWaiting state since) looks
