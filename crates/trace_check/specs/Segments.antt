-- The lines of a commit keep the order of a trace.
use Rattle.std.specs.Prelude.{◌≡◌, ℕ, false, Some, None, List, [], ◌∷◌, ◌++◌, map}
use Rattle.std.specs.List.{AllByRecursion}
use Rattle.rule_store.specs.Verdict.{Accepted, verdict}
use Rattle.tcam_device.specs.declared.Write.{Write}
use Rattle.tcam_device.specs.declared.Write.TheVariants as write
use Rattle.tcam_device.specs.declared.Action.{Action}
use Rattle.tcam_device.specs.declared.Action.TheVariants.{Written, Drained}
use Rattle.tcam_device.specs.State.{IsInUse}
use Rattle.commit_writes.specs.Actions.{commit_actions}
use Rattle.commit_writes.specs.Commit.{IsSegment}
use Rattle.commit_writes.specs.Segments.{MayBegin}
use Rattle.readback.specs.Laws.{HasUnused}
use Rattle.trace_file.specs.declared.TraceLine.{TraceLine}
use Rattle.trace_file.specs.declared.TraceLine.TheVariants.{Put, Erase, Table, Drain, Done}
use Rattle.trace_check.specs.Orderly.{Tracing, AllKeepOrder}

-- a write or a drain as a line
abbrev pub action_line : Action → TraceLine
action_line (Written (write.Slot at (Some entry))) = Put at entry
action_line (Written (write.Slot at None)) = Erase at
action_line (Written (write.Table field port word)) = Table field port word
action_line Drained = Drain

-- A commit begins here: its set is at rest, its commands are known, its batch is accepted, and nothing of it was made.
pub record BeginsCommit (now : Tracing) : Type 0 where
  pub may : MayBegin now.mode now.bits now.rules now.batch now.state
  pub taken : verdict now.slots now.mode now.rules now.batch ≡ Accepted
  pub unused : HasUnused now.slots now.state
  pub moved : now.moved ≡ false
  pub no_put : now.has_put ≡ false

-- the lines of its writes and its drain, and its last one
abbrev pub commit_lines : List Action → ℕ → List TraceLine
commit_lines actions number = map action_line actions ++ Done number ∷ []

-- they keep the order.
abbrev pub SegmentsAreOrderly : Type 0
SegmentsAreOrderly =
    (now : Tracing) (number : ℕ) (made : List Write) → BeginsCommit now → IsSegment now.mode now.bits now.rules now.batch now.state made → AllByRecursion (IsInUse now.slots) made
    → AllKeepOrder now (commit_lines (commit_actions now.mode now.bits now.rules now.batch made) number)
