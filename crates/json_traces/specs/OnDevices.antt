-- The lines of a commit on a device with more slots than those in use.
use Rattle.std.specs.Prelude.{◌≡◌, ℕ, List, length}
use Rattle.std.specs.List.{AllByRecursion}
use Rattle.tcam_device.specs.declared.Write.{Write}
use Rattle.tcam_device.specs.State.{IsInUse, on_device}
use Rattle.commit_writes.specs.Actions.{commit_actions}
use Rattle.commit_writes.specs.Commit.{IsSegment}
use Rattle.trace_check.specs.Orderly.{Tracing, AllKeepOrder}
use Rattle.trace_check.specs.Segments.{BeginsCommit, commit_lines}

-- what is known, over a device of so many slots: those past the slots in use are empty
abbrev pub over_device : ℕ → Tracing → Tracing
over_device device_slots now = record now { state = on_device device_slots now.state }

-- A trace has the slots in use alone. Where a commit begins on a device with more of them, its lines keep the order in those
-- that are in use.
abbrev pub SegmentsAreOrderlyOnDevices : Type 0
SegmentsAreOrderlyOnDevices =
    (now : Tracing) (device_slots number : ℕ) (made : List Write) → length now.state.slots ≡ now.slots → BeginsCommit (over_device device_slots now)
    → IsSegment now.mode now.bits now.rules now.batch (on_device device_slots now.state) made → AllByRecursion (IsInUse now.slots) made
    → AllKeepOrder now (commit_lines (commit_actions now.mode now.bits now.rules now.batch made) number)
