-- The trace that a report in JSON is.
use Rattle.std.specs.Prelude.{◌≡◌, ℕ, suc, ◌&&◌, ◌+◌, ◌-◌, ◌^◌, ◌<◌, ◌≤◌, true, false, List, [], ◌∷◌, ◌++◌, length, flat_map}
use Rattle.std.specs.List.{AllByRecursion}
use Rattle.slot_order.specs.Order.{script_slots}
use Rattle.rule_model.specs.declared.IpVersion.{IpVersion}
use Rattle.rule_model.specs.declared.IpVersion.TheVariants.{V4}
use Rattle.rule_model.specs.declared.Rule.{Rule}
use Rattle.rule_store.specs.declared.Command.{Command as Change}
use Rattle.rule_store.specs.Batch.{most_pending, set_after}
use Rattle.rule_store.specs.Verdict.{Accepted}
use Rattle.tcam_device.specs.declared.Write.{Write}
use Rattle.trace_file.specs.declared.TraceLine.{TraceLine}
use Rattle.trace_file.specs.declared.TraceLine.TheVariants.{Head}
use Rattle.trace_file.specs.Forms.{IsTraceLineOf}
use Rattle.json_text.specs.JsonText.{json_line}
use Rattle.trace_check.specs.Hitless.{commits_of, trace_writes}
use Rattle.trace_check.specs.Orderly.{IsTrace, IsOrderly}
use Rattle.replay.specs.declared.Act.{Act}
use Rattle.replay.specs.declared.Act.TheVariants.{Command, Ask, All, Probe, Packet, Commit, Trial, Crash}
use Rattle.replay.specs.Effects.{Setting, Effect, journal_of, printed}
use Rattle.settled_changes.specs.declared.requested.Requested.{Requested}
use Rattle.settled_changes.specs.declared.requested.Requested.TheVariants.{Nothing, Whole}
use Rattle.settled_changes.specs.Requested.{asked_behind, asked_with, batch_behind, batch_with, settled_batch, settled_verdict, strict_form}
use Rattle.replay.specs.JsonLines.{change_line}
use Rattle.replay.specs.Reports.{fault_told}
use Rattle.report_lines.specs.Text.{family_version}
use Rattle.replay.specs.Early.{goes_in_two}
use Rattle.replay.specs.Run.{Progress, ending}
use Rattle.tcam_cli.specs.InTwo.{RunsBy}
use Rattle.tcam_cli.specs.AllTheWay.{sets_through}

-- the text of some lines of a trace of this version, one behind the other; the line of a fault has this text of it
abbrev pub trace_text : IpVersion → List ℕ → List TraceLine → List ℕ
trace_text version fault lines = flat_map (json_line version fault) lines

-- the version of a trace, which its head tells
abbrev pub trace_version : List TraceLine → IpVersion
trace_version (Head version acl bits slots ∷ lines) = version
trace_version lines = V4

-- A report is an orderly trace: it is the text of its lines, their numbers are within the limits of a trace, so many commits
-- are accepted, and these are its device writes.
pub record IsOrderlyReport (fault report : List ℕ) (commits : ℕ) (made : List Write) : Type 0 where
  pub lines : List TraceLine
  pub text_is : report ≡ trace_text (trace_version lines) fault lines
  pub within : AllByRecursion (IsTraceLineOf (trace_version lines)) lines
  pub trace : IsTrace lines
  pub orderly : IsOrderly lines
  pub commits_are : length (commits_of lines) ≡ commits
  pub writes_are : trace_writes lines ≡ made

-- Acts that a report in JSON tells of, behind so many pending changes: no trial and no crash, changes of rules of this
-- version, strict or asked for, and no more of them than may be pending.
abbrev pub AreTraceActs : IpVersion → ℕ → List Act → Type 0
AreTraceActs version pending [] = Unit {0}
AreTraceActs version pending (Command change ∷ acts) = IsTraceLineOf version (change_line change) × (pending < most_pending) × AreTraceActs version (pending + 1) acts
AreTraceActs version pending (Ask request ∷ acts) =
    IsTraceLineOf version (change_line (strict_form request)) × (pending < most_pending) × AreTraceActs version (pending + 1) acts
AreTraceActs version pending (All ∷ acts) = AreTraceActs version 0 acts
AreTraceActs version pending (Probe key ∷ acts) = AreTraceActs version pending acts
AreTraceActs version pending (Packet key ∷ acts) = AreTraceActs version pending acts
AreTraceActs version pending (Commit ∷ acts) = AreTraceActs version 0 acts
AreTraceActs version pending (Trial most ∷ acts) = ⊥
AreTraceActs version pending (Crash after ∷ acts) = ⊥

-- A report in JSON is wanted, over slots in use that a device has.
pub record WantsTrace (setting : Setting) (device_slots : ℕ) : Type 0 where
  pub json : setting.json ≡ true
  pub usual : setting.large ≡ false
  pub some : 1 ≤ setting.slots
  pub most : setting.slots ≤ script_slots
  pub device : setting.slots ≤ device_slots

-- How many commits of some acts are made in two parts, by the rule lists alone.
abbrev pub parted_through : Setting → List Rule → List Change → Requested → List Act → ℕ
parted_through setting rules batch asked [] = 0
parted_through setting rules batch asked (Command change ∷ acts) = parted_through setting rules (batch_with batch asked change) (asked_with asked change) acts
parted_through setting rules batch asked (Ask request ∷ acts) = parted_through setting rules (batch_behind batch asked) (asked_behind batch asked request) acts
parted_through setting rules batch asked (All ∷ acts) = parted_through setting rules [] (Whole []) acts
parted_through setting rules batch asked (Probe key ∷ acts) = parted_through setting rules batch asked acts
parted_through setting rules batch asked (Packet key ∷ acts) = parted_through setting rules batch asked acts
parted_through setting rules batch asked (Commit ∷ acts) =
    elim (setting.parts && goes_in_two setting.slots setting.mode rules batch asked) [
      | true ↦ suc (parted_through setting (set_after rules (settled_batch rules batch asked)) [] Nothing acts)
      | false ↦
          elim (settled_verdict setting.slots setting.mode rules batch asked) [
            | Accepted ↦ parted_through setting (set_after rules (settled_batch rules batch asked)) [] Nothing acts
            | _ ↦ parted_through setting rules [] Nothing acts
          ]
    ]
parted_through setting rules batch asked (Trial most ∷ acts) = 0
parted_through setting rules batch asked (Crash after ∷ acts) = 0

-- How many commits of some acts are accepted, by the rule lists alone: each leads to one set more, and one that is made in two
-- parts is two commits of the trace.
abbrev pub accepted_in : Setting → List Act → ℕ
accepted_in setting acts = (length (sets_through setting [] [] [] Nothing acts) + parted_through setting [] [] Nothing acts) - 1

-- Where all acts are carried out the report is an orderly trace, whose writes are those of the journal: with the line that
-- tells of the end of the acts, and with one that tells of a fault.
abbrev pub JsonRunsAreOrderly : Type 0
JsonRunsAreOrderly =
    (setting : Setting) (device_slots : ℕ) (acts : List Act) (body : List Effect) (last : Progress) → WantsTrace setting device_slots → AreTraceActs (family_version setting.family) 0 acts
    → RunsBy setting device_slots acts body last → last.commits < 2 ^ 32 → length (journal_of body) < 2 ^ 64
    → IsOrderlyReport [] (printed body ++ ending setting last) (accepted_in setting acts) (journal_of body)
    × ((number : ℕ) (text : List ℕ) → number < 2 ^ 32 → IsOrderlyReport text (printed body ++ fault_told setting last.commits number text) (accepted_in setting acts) (journal_of body))
