-- What holds of a manager between its calls.
use Rattle.std.specs.Prelude.{◌≡◌, ℕ, ◌<◌, ◌≤◌, ◌⊎◌, false, true, Option, Some, None, IfSome, List, [], length, take}
use Rattle.slot_order.specs.Order.{most_slots}
use Rattle.tcam_device.specs.declared.Write.{Write}
use Rattle.tcam_device.specs.State.{State, on_device}
use Rattle.commit_writes.specs.Bits.{FieldBits}
use Rattle.batch_order.specs.Managed.{HeldCommit}
use Rattle.batch_order.specs.Steps.{IsPlainlyForward, is_unwritten, next_of}
use Rattle.split_device.specs.State.{SplitState, IsSized, undivided, split_after}
use Rattle.split_device.specs.declared.SplitWrite.{SplitWrite}
use Rattle.split_device.specs.Flight.{written}
use Rattle.split_writes.specs.Parts.{write_parts}
use Rattle.split_writes.specs.UnderWay.{IsUnderWay}
use Rattle.split_order.specs.declared.since.Since.{Since}
use Rattle.split_order.specs.Managed.{SplitManaged, no_counts}
use Rattle.split_order.specs.Left.{left_of, since_of, state_on}
use Rattle.split_order.specs.Since.{IsSince}

-- the parts of a write, none where none is due
abbrev pub parts_of_due : State → Option Write → List SplitWrite
parts_of_due whole None = []
parts_of_due whole (Some write) = write_parts whole write

-- those of the write that is due
abbrev pub parts_due : SplitManaged → List SplitWrite
parts_due manager = parts_of_due manager.whole.state (next_of manager.whole.held)

-- what is left of a commit is under way
abbrev pub IsWayOn : ℕ → SplitManaged → HeldCommit → Type 0
IsWayOn slots manager held =
    (bits : FieldBits) × IsUnderWay manager.whole.rules held.rules bits held.during (state_on slots manager) (since_of manager) (left_of slots manager)

-- On a device of so many slots: before the first part of the write that is due it stood where the planner stands, and since
-- then so many of its parts were made.
pub record IsKeptOn (slots : ℕ) (manager : SplitManaged) : Type 0 where
  pub before : SplitState
  pub sized : IsSized before
  pub size : length before.slots ≡ slots
  pub whole_is : undivided before ≡ on_device slots manager.whole.state
  pub now_is : state_on slots manager ≡ split_after before (take manager.made (parts_due manager))
  pub way : IfSome manager.whole.held (IsWayOn slots manager)

-- of a commit under way a part of the write that is due is left, and where nothing was made its plan may be dropped
pub record IsCommitKept (manager : SplitManaged) (held : HeldCommit) : Type 0 where
  pub forward : IsPlainlyForward (Some held)
  pub made : (manager.made ≡ 0) ⊎ (manager.made < length (parts_due manager))
  pub fresh : manager.begun ≡ false → (manager.made ≡ 0) × (is_unwritten (Some held) ≡ true)

-- with none nothing is
pub record IsRest (manager : SplitManaged) : Type 0 where
  pub made : manager.made ≡ 0
  pub begun : manager.begun ≡ false
  pub counts : manager.counts ≡ no_counts

abbrev pub IsCommitOrRest : SplitManaged → Option HeldCommit → Type 0
IsCommitOrRest manager None = IsRest manager
IsCommitOrRest manager (Some held) = IsCommitKept manager held

pub record IsSplitKept (since : Since) (left : ℕ) (manager : SplitManaged) : Type 0 where
  pub commit : IsCommitOrRest manager manager.whole.held
  pub on : (slots : ℕ) → manager.whole.slots ≤ slots → IsKeptOn slots manager
  pub left_is : (slots : ℕ) → manager.whole.slots ≤ slots → left ≡ length (written (left_of slots manager))
  pub few : manager.whole.slots ≤ most_slots
  pub whole_size : length manager.whole.state.slots ≡ manager.whole.slots
  pub size : length since.erased.items ≡ manager.whole.slots
  pub since_is : IsSince since (since_of manager)
