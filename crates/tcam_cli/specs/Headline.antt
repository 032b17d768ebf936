-- What the top call promises: for every script the commits are accepted or refused as the rule lists alone say; after
-- every device write each packet gets the old or the new rule set's answer, over a crash too, and after the last write of
-- a commit that finishes the new one, of a trial that is taken back the old one; a refused commit writes nothing; and an
-- insertion takes at most 1 + 2 m (1 + c) writes. Writes, drains and lines come in one order: a probe's line stands a
-- depth of writes behind its write, or before a drain or the commit's end, and a drain only where a commit gives new bits.
use Rattle.std.specs.Prelude.{◌≡◌, ◌≢◌, ℕ, ◌-◌, true, false, Bool, Option, Some, None, option_map, IfSome, List, [], ◌++◌, length, take, codes, ◌⊎◌}
use Rattle.std.specs.Io.KnownBytes.{Appends}
use Rattle.call_history.specs.Cause.{IsCounted}
use Rattle.script_lines.specs.declared.LineFault.TheVariants as line_fault
use Rattle.script_runs.specs.declared.Status.{Status}
use Rattle.script_runs.specs.declared.Status.TheVariants.{Done, Refused, Script as ScriptFault, ReadFault, WriteFault, DeviceFault, Memory, Usage}
use Rattle.script_runs.specs.Script as scripts
use Rattle.script_runs.specs.Script.{ScriptEnd, Whole, FaultAt, acts_of}
use Rattle.script_runs.specs.Outcomes as outcomes
use Rattle.script_runs.specs.Outcomes.{RunKind, IsPrinted, TakesFrom, status_at}
use Rattle.rule_model.specs.declared.Rule.{Rule}
use Rattle.rule_store.specs.declared.Command.{Command as Change}
use Rattle.tcam_device.specs.declared.Write.{Write}
use Rattle.tcam_device.specs.declared.Action.{Action}
use Rattle.tcam_device.specs.declared.Action.TheVariants.{Written}
use Rattle.tcam_device.specs.View.{DeviceView, journal}
use Rattle.batch_order.specs.CarriedOut.{IsTried}
use Rattle.replay.specs.declared.Act.{Act}
use Rattle.settled_changes.specs.declared.requested.Requested.{Requested}
use Rattle.settled_changes.specs.declared.requested.Requested.TheVariants.{Nothing}
use Rattle.settled_changes.specs.Requested.{changes_in}
use Rattle.replay.specs.Script.{Script, Reading, script_kind, script_of}
use Rattle.report_lines.specs.declared.sizes.Sizes.{Sizes}
use Rattle.report_lines.specs.Sizes.{sizes_by}
use Rattle.report_lines.specs.Text.{usage_line, fault_line}
use Rattle.replay.specs.Text.{yes_line, no_line}
use Rattle.replay.specs.Effects.{Setting, Effect, Acts, Prints, events_in, printed}
use Rattle.replay.specs.Reports.{fault_told}
use Rattle.replay.specs.Run.{Progress, start, ending}
use Rattle.tcam_cli.specs.OwnTexts.{OwnText, IsOwnText}
use Rattle.tcam_cli.specs.Judgements.{any_declined, judgements}
use Rattle.tcam_cli.specs.InTwo.{IsCutBy, StepsBy, TakesBy}
use Rattle.trace_check.specs.Answers.{TraceAnswer, Yes, No, Bad, Unread, IsTraceAnswer}
use Rattle.tcam_cli.specs.Readings.{reading_by}
use Rattle.tcam_cli.specs.MadeScript.{made_script}

-- what words ask for: nothing, a text of the product about itself, a script from the source, made commands, or the check
-- of a trace from the source
pub data Job : Type 0 where
  NoJob : Job
  Tells : (own : OwnText) → Job
  Reads : (setting : Setting) → Job
  Makes : (setting : Setting) (seed rules batches : ℕ) → Job
  Verifies : Job

-- how many slots of its device a job uses
abbrev pub wanted_slots : Job → ℕ
wanted_slots NoJob = 0
wanted_slots (Tells own) = 0
wanted_slots (Reads setting) = setting.slots
wanted_slots (Makes setting seed rules batches) = setting.slots
wanted_slots Verifies = 0

-- The last line that a script's end gives: the end line, or the line that names the fault.
abbrev pub closing_line : Setting → Progress → ScriptEnd → List ℕ
closing_line setting progress Whole = ending setting progress
closing_line setting progress (FaultAt line text) = fault_told setting progress.commits line text

-- the status of a script that was carried out to its end
abbrev pub status_of : Progress → ScriptEnd → Status
status_of progress end = status_at progress.refused end

-- The runs of a setting over a device of so many slots, of which script_runs says how they end.
abbrev pub run_kind : Setting → ℕ → RunKind Act (ℕ × ℕ) Progress Effect Write (List Action)
run_kind setting device_slots =
    record {
      scripts = script_kind (sizes_by setting.large) (reading_by setting);
      counted = λ progress. (changes_in progress.batch progress.asked, length progress.probes);
      start = start device_slots;
      Step = StepsBy setting;
      IsCutStep = IsCutBy setting;
      TakesMemory = TakesBy setting;
      closing_line = closing_line setting;
      refused = λ progress. progress.refused;
      line = Prints;
      write = λ write. Acts (Written write);
      printed = printed;
      events_in = events_in;
      joined = λ first second. first ++ second;
    }

-- The whole script was carried out: these are its effects, and this is the status.
abbrev pub IsComplete : Setting → ℕ → Script → Status → List Effect → Type 0
IsComplete setting device_slots script status effects = outcomes.IsComplete (run_kind setting device_slots) script status effects

-- what some first bytes of a script are so far: the acts of their whole lines, and a fault where they have one
abbrev pub script_so_far : Sizes → Reading → List ℕ → Script
script_so_far sizes reading bytes = scripts.script_so_far (script_kind sizes reading) bytes

-- what a run did by its status: its effects and part of a further line; came is what the bytes taken are of the script
abbrev pub IsOutcome : Setting → ℕ → Script → Script → Status → List Effect → List ℕ → Type 0
IsOutcome setting device_slots script came status effects partial = outcomes.IsOutcome (run_kind setting device_slots) script came status effects partial

-- the line that a check prints of a trace
abbrev pub told_line : TraceAnswer → List ℕ
told_line (Yes commits writes) = yes_line commits writes
told_line (No line) = no_line line
told_line (Bad line) = fault_line line (codes "bad trace")
told_line (Unread (line_fault.ScriptTooLong line)) = fault_line line (codes "script too long")
told_line (Unread (line_fault.TooLong line)) = fault_line line (codes "line too long")
told_line (Unread (line_fault.BadByte line)) = fault_line line (codes "bad byte")
told_line (Unread line_fault.Read) = []

-- and its status
abbrev pub told_status : TraceAnswer → Status
told_status (Yes commits writes) = Done
told_status (No line) = Refused
told_status (Bad line) = ScriptFault
told_status (Unread fault) = ScriptFault

-- What is told of a trace was printed, or a part of its line where the sink failed; or nothing was, where the source
-- failed or memory was wanting.
abbrev pub IsToldOf : List ℕ → Status → List ℕ → Type 0
IsToldOf text status report =
    ((answer : TraceAnswer) × IsTraceAnswer text answer × IsPrinted (told_line answer) (told_status answer) status report)
    ⊎ (((status ≡ ReadFault) ⊎ (status ≡ Memory)) × (report ≡ []))

-- A trace was checked: what was taken of the source is the beginning of it, and all of it where it is orderly.
pub record IsChecked (status : Status) (old new : List ℕ) (taken_old taken_new : Option (List ℕ)) : Type 0 where
  pub taken : List ℕ
  pub parts : old ≡ taken ++ new
  pub all : status ≡ Done → new ≡ []
  pub report : List ℕ
  pub told : IsToldOf old status report
  pub report_is : Appends taken_old taken_new report

-- The writes and drains of the device, and the report where it is told, are those of an outcome.
abbrev pub MatchesOutcome : Setting → ℕ → Script → Script → Status → List Action → Option (List ℕ) → Option (List ℕ) → Type 0
MatchesOutcome setting device_slots script came status events taken_old taken_new =
    outcomes.MatchesOutcome (run_kind setting device_slots) script came status events taken_old taken_new

-- The same of a script that isn't read: no read of it fails, so that no part of it is all that came.
abbrev pub MatchesMade : Setting → ℕ → Script → Status → List Action → Option (List ℕ) → Option (List ℕ) → Type 0
MatchesMade setting device_slots script status events taken_old taken_new =
    (status ≢ ReadFault) × MatchesOutcome setting device_slots script script status events taken_old taken_new

-- A job that touches neither source nor device, and prints one text.
abbrev pub IsToldAlone : List ℕ → Status → Status → Option (List ℕ) → Option (List ℕ) → Option (List ℕ) → Option (List ℕ) → List Action → Type 0
IsToldAlone text last status left_old left_new taken_old taken_new events =
    (left_new ≡ left_old) × (events ≡ [])
    × IfSome taken_old (λ before. IfSome taken_new (λ after. (report : List ℕ) × (after ≡ before ++ report) × IsPrinted text last status report))

-- The promise of a job over a device that was blank, each part where what it rests on is told of source and sink. Of a
-- source that foretells nothing specs/Given.antt speaks. Made commands leave the source as it is.
abbrev pub IsCarriedOut : Job → ℕ → Status → Option (List ℕ) → Option (List ℕ) → Option (List ℕ) → Option (List ℕ) → List Action → Type 0
IsCarriedOut NoJob device_slots status left_old left_new taken_old taken_new events =
    IsToldAlone usage_line Usage status left_old left_new taken_old taken_new events
IsCarriedOut (Tells own) device_slots status left_old left_new taken_old taken_new events =
    (text : List ℕ) × IsOwnText own text × IsToldAlone text Done status left_old left_new taken_old taken_new events
IsCarriedOut (Reads setting) device_slots status left_old left_new taken_old taken_new events =
    IfSome left_old (λ old. IfSome left_new (λ new.
    TakesFrom status old new
    × MatchesOutcome setting device_slots (script_of (sizes_by setting.large) (reading_by setting) old)
    (script_so_far (sizes_by setting.large) (reading_by setting) (take (length old - length new) old)) status events taken_old taken_new))
IsCarriedOut (Makes setting seed rules batches) device_slots status left_old left_new taken_old taken_new events =
    (left_new ≡ left_old) × MatchesMade setting device_slots (made_script seed rules batches) status events taken_old taken_new
IsCarriedOut Verifies device_slots status left_old left_new taken_old taken_new events =
    (events ≡ []) × IfSome left_old (λ old. IfSome left_new (λ new. IsChecked status old new taken_old taken_new))

-- whether a commit of the acts is refused, by the rule lists alone and by which accepted trials are taken back
abbrev pub any_refused : Setting → List Bool → List Rule → List Change → Requested → List Act → Bool
any_refused setting backs rules batch asked acts = any_declined (judgements setting backs rules batch asked acts)

-- the status of a script that is carried out to its end, by the rule lists alone and by which trials are taken back
abbrev pub decided : Setting → List Bool → Script → Status
decided setting backs script =
    elim script.last [
      | Whole ↦ elim (any_refused setting backs [] [] Nothing (acts_of script)) [ true ↦ Refused | false ↦ Done ]
      | FaultAt line text ↦ ScriptFault
    ]

-- The status that words and script alone decide, where the script is told or made. Which trials are taken back rests on
-- the number of their writes; a script without trials has one status, whatever is said of them.
abbrev pub decision : Job → List Bool → Option (List ℕ) → Option Status
decision NoJob backs left = Some Usage
decision (Tells own) backs left = Some Done
decision (Reads setting) backs left = option_map (λ bytes. decided setting backs (script_of (sizes_by setting.large) (reading_by setting) bytes)) left
decision (Makes setting seed rules batches) backs left = Some (decided setting backs (made_script seed rules batches))
decision Verifies backs left = None

-- words and script alone decide this status, where the script is told or made; and what is told of a trace does
abbrev pub IsDecided : Status → Job → Option (List ℕ) → Type 0
IsDecided status NoJob left = (backs : List Bool) × IfSome (decision NoJob backs left) (λ is. is ≡ status)
IsDecided status (Tells own) left = (backs : List Bool) × IfSome (decision (Tells own) backs left) (λ is. is ≡ status)
IsDecided status (Reads setting) left = (backs : List Bool) × IfSome (decision (Reads setting) backs left) (λ is. is ≡ status)
IsDecided status (Makes setting seed rules batches) left =
    (backs : List Bool) × IfSome (decision (Makes setting seed rules batches) backs left) (λ is. is ≡ status)
IsDecided status Verifies left = IfSome left (λ text. (answer : TraceAnswer) × IsTraceAnswer text answer × (told_status answer ≡ status))

-- a job that reads the source
abbrev pub ReadsSource : Job → Type 0
ReadsSource NoJob = ⊥
ReadsSource (Tells own) = ⊥
ReadsSource (Reads setting) = Unit {0}
ReadsSource (Makes setting seed rules batches) = ⊥
ReadsSource Verifies = Unit {0}

-- a job that writes the device
abbrev pub WritesDevice : Job → Type 0
WritesDevice NoJob = ⊥
WritesDevice (Tells own) = ⊥
WritesDevice (Reads setting) = Unit {0}
WritesDevice (Makes setting seed rules batches) = Unit {0}
WritesDevice Verifies = ⊥

-- how a job may end: by a fault of what it uses, for want of memory, or as its words and its script decide
abbrev pub MayEnd : Status → Job → Option (List ℕ) → Type 0
MayEnd Memory job left = Unit {0}
MayEnd WriteFault job left = Unit {0}
MayEnd ReadFault job left = ReadsSource job
MayEnd DeviceFault job left = WritesDevice job
MayEnd Usage job left = job ≡ NoJob
MayEnd Done job left = IsDecided Done job left
MayEnd Refused job left = IsDecided Refused job left
MayEnd ScriptFault job left = ReadsSource job × IsDecided ScriptFault job left

-- A fault of source or sink exactly where its count rose, by one; of the device where its count rose by four, as by
-- four tries of one write, and beside them by at most three for each write of its journal, which was blank. Else it is
-- want of memory, or the status that words and script decide.
pub record HasCauses (job : Job) (left : Option (List ℕ)) (status : Status) (source_old source_new sink_old sink_new : ℕ) (device_old device_new : DeviceView) : Type 0 where
  pub read : IsCounted (status ≡ ReadFault) source_old source_new
  pub write : IsCounted (status ≡ WriteFault) sink_old sink_new
  pub device : IsTried 4 (length (journal device_new)) (status ≡ DeviceFault) device_old.faults device_new.faults
  pub ends : MayEnd status job left
