-- What a check of the program's own reports in JSON tells.
use Rattle.std.specs.Prelude.{◌≡◌, ◌⊎◌, ℕ, ◌^◌, ◌<◌, ◌≤◌, true, Some, List, ◌++◌, length}
use Rattle.slot_order.specs.Order.{script_slots}
use Rattle.tcam_device.specs.declared.Action.{Action}
use Rattle.tcam_device.specs.Flight.{writes_in}
use Rattle.trace_check.specs.Answers.{Yes, IsTraceAnswer}
use Rattle.replay.specs.Effects.{Setting}
use Rattle.report_lines.specs.Sizes.{sizes_by}
use Rattle.replay.specs.Script.{script_of}
use Rattle.script_runs.specs.declared.Status.{Status}
use Rattle.script_runs.specs.declared.Status.TheVariants.{Done, Refused, Script}
use Rattle.tcam_cli.specs.CommandLine.{job_of}
use Rattle.script_runs.specs.Script.{acts_of}
use Rattle.tcam_cli.specs.Headline.{Reads, IsCarriedOut}
use Rattle.tcam_cli.specs.Readings.{reading_by}
use Rattle.json_traces.specs.Traces.{accepted_in}

-- the script was carried out to its end, or to the fault of a line
abbrev pub IsReported : Status → Type 0
IsReported status = (status ≡ Done) ⊎ ((status ≡ Refused) ⊎ (status ≡ Script))

-- Of what the top call reported in JSON, whatever the words and the script, yes is told where the report is whole: with the
-- commits that the rule lists accept, and as many writes as the device had.
abbrev pub JsonReportsGetYes : Type 0
JsonReportsGetYes =
    (words : List (List ℕ)) (setting : Setting) (device_slots : ℕ) (status : Status) (old new before report : List ℕ) (events : List Action)
    → job_of words ≡ Reads setting → setting.json ≡ true → script_slots ≤ device_slots → IsReported status → length (writes_in events) < 2 ^ 64
    → IsCarriedOut (Reads setting) device_slots status (Some old) (Some new) (Some before) (Some (before ++ report)) events
    → IsTraceAnswer report (Yes (accepted_in setting (acts_of (script_of (sizes_by setting.large) (reading_by setting) old))) (length (writes_in events)))
