-- What the top call reports in JSON gets yes.
use Rattle.std.proofs.Common.{◌≡◌, ℕ, Bool, ◌^◌, ◌<◌, ◌≤◌, List, [], ◌∷◌, ◌++◌, length, inl, inr, sym, ap, ◌∙◌, subst, arith, append-nil}
use Rattle.std.proofs.lemmas.List.{append_cancel_left}
use Rattle.slot_order.specs.Order.{script_slots}
use Rattle.script_lines.specs.Lines.{lines_of, usual_bytes}
use Rattle.report_lines.specs.Sizes.{sizes_by, usual_sizes}
use Rattle.tcam_device.specs.declared.Write.{Write}
use Rattle.tcam_device.specs.Flight.{writes_in}
use Rattle.trace_check.specs.Answers.{Yes, IsTraceAnswer}
use Rattle.replay.specs.Effects.{Setting, Effect, Prints, events_in, journal_of, printed}
use Rattle.replay.specs.Reports.{fault_told}
use Rattle.report_lines.specs.Text.{family_version}
use Rattle.replay.specs.Run.{Progress, ending, start}
use Rattle.tcam_cli.specs.InTwo.{RunsBy}
use Rattle.script_runs.specs.Script.{ScriptEnd, Whole, FaultAt, acts_of}
use Rattle.replay.specs.Script.{Script, script_of}
use Rattle.replay.proofs.lines.Effects.{events-append, printed-append}
use Rattle.script_runs.specs.declared.Status.{Status}
use Rattle.tcam_cli.specs.Headline.{closing_line, IsComplete, IsOutcome}
use Rattle.tcam_cli.specs.Readings.{reading_by}
use Rattle.json_traces.specs.Traces.{AreTraceActs, WantsTrace, accepted_in}
use Rattle.json_traces.specs.Promised.{IsReported, JsonReportsGetYes}
use Rattle.json_traces.proofs.FaultTexts.{batch_plain, byte_plain, changes_plain, none_plain, probes_plain, reading_plain}
use Rattle.json_traces.proofs.FewCommits.{few_commits}
use Rattle.json_traces.proofs.ScriptLines.{reads_traces}
use Rattle.json_traces.proofs.Scripts.{EndsPlainly, acts_told, ends_plainly, act_count, few_lines}
use Rattle.json_traces.proofs.Told.{reports_get_yes}
use Rattle.json_traces.proofs.Wanted.{words_ask}
use Rattle.json_traces.proofs.Whole.{json_runs_orderly}

-- a report that gets yes, with so many commits and these writes
abbrev GetsYes : ℕ → List ℕ → List Write → Type 0
GetsYes commits report made = IsTraceAnswer report (Yes commits (length made))

module _ (setting : Setting) (device_slots : ℕ) (wants : WantsTrace setting device_slots) (bytes : List ℕ) where
  abbrev script : Script
  script = script_of (sizes_by setting.large) (reading_by setting) bytes

  -- the script of the usual sizes that these bytes are
  abbrev usual : Script
  usual = script_of usual_sizes (reading_by setting) bytes

  script_is : script ≡ usual
  script_is = ap (λ (large : Bool). script_of (sizes_by large) (reading_by setting) bytes) wants.usual

  abbrev commits : ℕ
  commits = accepted_in setting (acts_of script)

  told : AreTraceActs (family_version setting.family) 0 (acts_of script)
  told = subst (λ (some : Script). AreTraceActs (family_version setting.family) 0 (acts_of some)) (sym script_is)
      (acts_told (family_version setting.family) (reading_by setting) (reads_traces setting wants.json) (lines_of usual_bytes bytes).last (lines_of usual_bytes bytes).lines 0 0 (omega arith))

  plain : EndsPlainly script.last
  plain =
      let few = few_lines bytes in
      subst (λ (some : Script). EndsPlainly some.last) (sym script_is)
      (ends_plainly (reading_by setting) (reading_plain setting wants.json) batch_plain changes_plain probes_plain (lines_of usual_bytes bytes).last (byte_plain (lines_of usual_bytes bytes).last few.last) (lines_of usual_bytes bytes).lines few.numbered 0 0)

  -- the commits are no more than the lines
  commits_few : (body : List Effect) (last : Progress) → RunsBy setting device_slots (acts_of script) body last → last.commits < 2 ^ 32
  commits_few body last run =
      let lines = (few_lines bytes).count in
      let least = act_count (reading_by setting) (lines_of usual_bytes bytes).lines (lines_of usual_bytes bytes).last 0 0 in
      let acts : length (acts_of script) ≤ length (lines_of usual_bytes bytes).lines = subst (λ (some : Script). length (acts_of some) ≤ length (lines_of usual_bytes bytes).lines) (sym script_is) least in
      let commits = few_commits setting (acts_of script) 0 (start device_slots) body last told run in
      omega arith

  -- with the line of its end
  closed : (body : List Effect) (last : Progress) (end : ScriptEnd) → EndsPlainly end → RunsBy setting device_slots (acts_of script) body last → length (journal_of body) < 2 ^ 64
      → GetsYes commits (printed body ++ closing_line setting last end) (journal_of body)
  closed body last Whole ends run few =
      reports_get_yes [] (printed body ++ ending setting last) commits (journal_of body)
      (json_runs_orderly setting device_slots (acts_of script) body last wants told run (commits_few body last run) few).0 none_plain
  closed body last (FaultAt number text) ends run few =
      reports_get_yes text (printed body ++ fault_told setting last.commits number text) commits (journal_of body)
      ((json_runs_orderly setting device_slots (acts_of script) body last wants told run (commits_few body last run) few).1 number text ends.0) ends.1

  complete : (status : Status) (effects : List Effect) → IsComplete setting device_slots script status effects → length (journal_of effects) < 2 ^ 64 → GetsYes commits (printed effects) (journal_of effects)
  complete status effects is few =
      let closing = closing_line setting is.last script.last in
      let made : journal_of effects ≡ journal_of is.body = ap writes_in (ap events_in is.effects_are ∙ events-append is.body (Prints closing ∷ []) ∙ append-nil (events_in is.body)) in
      let report : printed effects ≡ printed is.body ++ closing = ap printed is.effects_are ∙ printed-append is.body (Prints closing ∷ []) ∙ ap (λ text. printed is.body ++ text) (append-nil closing) in
      let yes = closed is.body is.last script.last plain is.run (subst (λ (ws : List Write). length ws < 2 ^ 64) made few) in
      subst (λ text. GetsYes commits text (journal_of effects)) (sym report) (subst (GetsYes commits (printed is.body ++ closing)) (sym made) yes)

-- an outcome that is reported is complete
complete_of : (setting : Setting) (device_slots : ℕ) (script came : Script) (status : Status) (effects : List Effect) (partial : List ℕ) → IsReported status → IsOutcome setting device_slots script came status effects partial
    → IsComplete setting device_slots script status effects × (partial ≡ [])
complete_of setting device_slots script came status effects partial (inl done) is =
    subst (λ (s : Status). IsComplete setting device_slots script s effects × (partial ≡ [])) (sym done) (subst (λ (s : Status). IsOutcome setting device_slots script came s effects partial) done is)
complete_of setting device_slots script came status effects partial (inr (inl refused)) is =
    subst (λ (s : Status). IsComplete setting device_slots script s effects × (partial ≡ [])) (sym refused) (subst (λ (s : Status). IsOutcome setting device_slots script came s effects partial) refused is)
complete_of setting device_slots script came status effects partial (inr (inr fault)) is =
    subst (λ (s : Status). IsComplete setting device_slots script s effects × (partial ≡ [])) (sym fault) (subst (λ (s : Status). IsOutcome setting device_slots script came s effects partial) fault is)

pub promised_yes : JsonReportsGetYes
promised_yes words setting device_slots status old new before report events asked json wide reported few (takes, matches) =
    let asks = words_ask words setting asked in
    let usual = asks.usual json in
    let most : setting.slots ≤ script_slots = subst (λ (large : Bool). setting.slots ≤ (sizes_by large).slots) usual asks.most in
    let wants : WantsTrace setting device_slots = record { json = json; usual = usual; some = asks.some; most = most; device = omega arith } in
    let w = complete_of setting device_slots _ _ status matches.effects matches.partial reported matches.outcome in
    let same : report ≡ printed matches.effects = append_cancel_left before report (printed matches.effects ++ matches.partial) matches.report_is
    ∙ ap (λ text. printed matches.effects ++ text) w.1 ∙ append-nil (printed matches.effects) in
    let made : writes_in events ≡ journal_of matches.effects = ap writes_in matches.events_is in
    let yes = complete setting device_slots wants old status matches.effects w.0 (subst (λ (ws : List Write). length ws < 2 ^ 64) made few) in
    subst (λ text. GetsYes (accepted_in setting (acts_of (script_of (sizes_by setting.large) (reading_by setting) old))) text (writes_in events)) (sym same)
    (subst (GetsYes (accepted_in setting (acts_of (script_of (sizes_by setting.large) (reading_by setting) old))) (printed matches.effects)) (sym made) yes)
