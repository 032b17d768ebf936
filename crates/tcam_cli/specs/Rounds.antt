-- Where a run over a script stands between two lines, and how a report is closed.
use Rattle.std.specs.Prelude.{◌≡◌, ◌⊎◌, ℕ, ◌≤◌, Bool, true, false, Option, None, Some, IsSome, List}
use Rattle.call_history.specs.Cause.{IsCounted}
use Rattle.script_lines.specs.Given.{counted}
use Rattle.script_lines.specs.Reader.{HeldBytes}
use Rattle.script_runs.specs.declared.Status.{Status}
use Rattle.script_runs.specs.declared.Status.TheVariants.{ReadFault, WriteFault, DeviceFault, Memory}
use Rattle.script_runs.specs.Rounds.{Closes}
use Rattle.report_lines.specs.declared.Family.TheVariants.{Route, Acl}
use Rattle.replay.specs.declared.RunFault.{RunFault}
use Rattle.replay.specs.declared.RunFault.TheVariants as fault
use Rattle.replay.specs.Effects.{Setting}
use Rattle.replay.specs.Running.{Running}
use Rattle.trace_check.specs.Answers.{TraceAnswer}
use Rattle.trace_verify.specs.declared.Verified.{Verified}
use Rattle.trace_verify.specs.declared.Verified.TheVariants as verified
use Rattle.trace_verify.specs.Verify.{told_of}
use Rattle.tcam_cli.specs.Headline.{told_line, told_status}

-- the status of a run at an act that was stopped
abbrev pub status_of_fault : RunFault → Status
status_of_fault fault.Sink = WriteFault
status_of_fault fault.Device = DeviceFault
status_of_fault fault.Memory = Memory

-- A call hands the last line of a report to a sink, by either count of the sink's bytes. What was told stays told, and
-- the sink's failure is the status exactly where it is counted.
pub record ClosesReport {S : Type 0} (taken : S → Option (List ℕ)) (accepted : S → List ℕ) (faults : S → ℕ) (old new : S) (line : List ℕ) (last status : Status) : Type 0 where
  pub closes : (which : Bool) → Closes line last status (counted which (taken old) (accepted old)) (counted which (taken new) (accepted new))
  pub told : IsSome (taken old) → IsSome (taken new)
  pub cause : IsCounted (status ≡ WriteFault) (faults old) (faults new)

-- What was told of a trace is the last line of a report, if something was; else nothing was written.
abbrev pub Reports : {S : Type 0} → (S → Option (List ℕ)) → (S → List ℕ) → (S → ℕ) → S → S → Verified → Status → Type 0
Reports taken accepted faults old new verified.Read status = (status ≡ ReadFault) × (new ≡ old)
Reports taken accepted faults old new verified.Memory status = (status ≡ Memory) × (new ≡ old)
Reports taken accepted faults old new answer status =
    (told : TraceAnswer) × (told_of answer ≡ Some told) × ClosesReport taken accepted faults old new (told_line told) (told_status told) status

-- A run between two lines: no commit is under way, the sink hasn't failed, and there are no more commits than bytes taken,
-- since a line of a commit takes two, and makes two at most.
pub record IsBetweenLines (held : HeldBytes) (run : Running) : Type 0 where
  pub idle : run.manager.held ≡ None
  pub whole : run.broken ≡ false
  pub commits : run.commits ≤ held.before
  pub within : held.before ≤ 268435456
