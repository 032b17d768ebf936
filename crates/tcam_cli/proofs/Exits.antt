-- What a round comes to, by what its act answers.
use Rattle.std.proofs.Common.{◌≡◌, ◌⊎◌, inl, inr, ℕ, Option, Some, None, Ok, List, [], length, subst}
use Rattle.script_lines.specs.declared.Line.{Line}
use Rattle.script_lines.specs.declared.Over.TheVariants as over
use Rattle.script_lines.specs.Lines.{numbered}
use Rattle.script_lines.specs.Reader.{HeldBytes, Again}
use Rattle.script_runs.specs.declared.Status.{Status}
use Rattle.script_runs.specs.declared.Status.TheVariants.{Done, Refused, Script as ScriptFault}
use Rattle.script_runs.specs.Rounds.{acts_only, SoFar, EndsRun, Closes, RunsOn, WantsNext}
use Rattle.script_runs.proofs.NextLines.{HandsOne}
use Rattle.script_runs.proofs.Exits as exits
use Rattle.tcam_device.specs.declared.Action.{Action}
use Rattle.replay.specs.declared.Act.{Act}
use Rattle.replay.specs.declared.RunFault.{RunFault}
use Rattle.replay.specs.declared.RunFault.TheVariants as run_fault
use Rattle.report_lines.specs.Sizes.{sizes_by}
use Rattle.replay.specs.Script.{limit_fault, script_of}
use Rattle.replay.specs.Reports.{fault_told}
use Rattle.replay.specs.Effects.{Setting}
use Rattle.settled_changes.specs.Requested.{changes_in}
use Rattle.replay.specs.Run.{Progress}
use Rattle.replay.specs.Carried.{IsAt}
use Rattle.replay.specs.Running.{Running, setting_of}
use Rattle.tcam_cli.specs.InTwo.{CarriesBy, WantsBy}
use Rattle.tcam_cli.specs.Headline.{run_kind, script_so_far}
use Rattle.tcam_cli.specs.Readings.{reading_by}
use Rattle.tcam_cli.specs.Rounds.{status_of_fault}
use Rattle.tcam_cli.proofs.Kind.{joins, does-of}
use Rattle.tcam_cli.proofs.OneMore.{run-at, step-counted}
use Rattle.tcam_cli.proofs.Outcomes.{Stops, stopped-outcome}

-- a fault of an act is no end of the input
not-whole : {now : List ℕ} (why : RunFault) → (status_of_fault why ≡ Done) ⊎ (status_of_fault why ≡ Refused) → now ≡ []
not-whole run_fault.Sink (inl e) = absurd (cc)
not-whole run_fault.Sink (inr e) = absurd (cc)
not-whole run_fault.Device (inl e) = absurd (cc)
not-whole run_fault.Device (inr e) = absurd (cc)
not-whole run_fault.Memory (inl e) = absurd (cc)
not-whole run_fault.Memory (inr e) = absurd (cc)

-- the fault of a line that is told by a run as it was
pub closes-by : (run new : Running) (number : ℕ) (text : List ℕ) (result : Status) (before after : Option (List ℕ)) → new ≡ run
    → Closes (fault_told (setting_of new) new.commits number text) ScriptFault result before after → Closes (fault_told (setting_of run) run.commits number text) ScriptFault result before after
closes-by run new number text result before after same closes =
    subst (λ (one : Running). Closes (fault_told (setting_of one) one.commits number text) ScriptFault result before after) same closes

-- a line came, of an act for which there is room
module _ (setting : Setting) (slots : ℕ) (bytes : List ℕ) (old : HeldBytes) (left : List ℕ) (last : Progress) (events : List Action) (start before : Option (List ℕ)) (s : SoFar (run_kind setting slots) bytes old left last events start before)
    (line : Line) (new : HeldBytes) (now : List ℕ) (again : Again old.over (Ok (Some line))) (hands : old.over ≡ over.Going → HandsOne old left (numbered line) new now)
    (act : Act) (is : reading_by setting (numbered line).text ≡ Ok (Some act)) (room : limit_fault (sizes_by setting.large).commands act (changes_in last.batch last.asked) (length last.probes) ≡ None) (events_new : List Action) (after : Option (List ℕ)) where
  at : IsAt slots events last
  at = run-at setting slots (acts_only s.acts) s.effects last events s.run s.events_is

  -- it is carried out
  pub goes-on : (next : Progress) → (IsAt slots events last → CarriesBy setting last act next events events_new before after) → RunsOn (run_kind setting slots) s.acts bytes new now next events_new start after
  goes-on next carries =
      let made = carries at in
      exits.goes-on (run_kind setting slots) joins bytes old left last events start before s line new now again hands act is room events_new after next made.effects made.step
      (step-counted setting slots last act made.effects next made.step) (does-of setting slots made.effects [] events events_new before after made.does)

  -- or cut, by its fault
  pub exit-stopped : (taken : List ℕ) (why : RunFault) → Stops slots setting last act why events events_new before after
      → EndsRun (run_kind setting slots) bytes taken now (status_of_fault why) events_new start after
  exit-stopped taken why stops =
      exits.exit-stopped (run_kind setting slots) joins bytes old left last events start before s line new now again hands act is room events_new after taken (status_of_fault why)
      (λ later acts.
      stopped-outcome setting slots (script_of (sizes_by setting.large) (reading_by setting) bytes) (script_so_far (sizes_by setting.large) (reading_by setting) taken) (acts_only s.acts) s.effects last events start before s.run s.events_is s.report
      act later acts events_new after why stops)
      (not-whole why)

  pub wants-next : WantsBy setting last act events events_new before after → WantsNext (run_kind setting slots) s.acts bytes last events events_new before after
  wants-next wants =
      exits.wants-next (run_kind setting slots) joins bytes old left last events start before s line new now again hands act is room events_new after wants.effects wants.needs
      (does-of setting slots wants.effects [] events events_new before after wants.does)
