-- What is kept of what was done since the last drain.
use Rattle.std.specs.Prelude.{◌≡◌, ℕ, ◌<◌, ◌≤◌, Bool, is_some, length, nat_eq, slice_index_or}
use Rattle.slot_order.specs.Order.{slot}
use Rattle.split_device.specs.declared.SplitWrite.{SplitWrite}
use Rattle.split_device.specs.declared.SplitWrite.TheVariants.{Slot, Result, Table}
use Rattle.split_device.specs.State.{SplitState}
use Rattle.split_device.specs.Drains.{SinceDrain, is_erased}
use Rattle.split_order.specs.declared.since.Since.{Since}

-- It tells of the slots in use which were erased, in this stretch and so not in a later one, whether a slot was written, and
-- whether a word of a table was.
pub record IsSince (kept : Since) (since : SinceDrain) : Type 0 where
  pub erased : (at : ℕ) → at < length kept.erased.items → nat_eq (slice_index_or kept.erased.items at 0) kept.stretch ≡ is_erased since at
  pub earlier : (at : ℕ) → at < length kept.erased.items → slice_index_or kept.erased.items at 0 ≤ kept.stretch
  pub slots : kept.slots ≡ since.slots
  pub bits : kept.bits ≡ since.bits

-- where a part is a result word, this is whether its slot holds an entry
abbrev pub StandsIn : SplitState → SplitWrite → Bool → Type 0
StandsIn state (Slot at parts) stands = Unit {0}
StandsIn state (Result at tag answer) stands = stands ≡ is_some (slot state.slots at)
StandsIn state (Table field port word) stands = Unit {0}
