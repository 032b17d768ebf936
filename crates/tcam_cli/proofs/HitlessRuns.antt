-- What packets see of each outcome of a run.
use Rattle.std.proofs.Common.{◌≡◌, inl, inr, ℕ, zero, suc, ◌+◌, ◌-◌, ◌*◌, ◌==◌, Bool, true, false, min, map, Option, Some, None, List, [], ◌∷◌, ◌++◌, length, take, drop, refl, ap, sym, ◌∙◌, subst, append_assoc, append-nil, take-append-drop}
use Rattle.std.specs.List.{AllByRecursion}
use Rattle.rule_store.specs.Verdict.{Verdict, Accepted, Unsound, OutOfBits, OutOfSlots}
use Rattle.tcam_device.specs.declared.Write.{Write}
use Rattle.tcam_device.specs.declared.Action.{Action}
use Rattle.tcam_device.specs.declared.Action.TheVariants.{Written, Drained}
use Rattle.tcam_device.specs.Flight.{writes_in}
use Rattle.tcam_device.specs.State.{State, apply, blank, state_after}
use Rattle.tcam_device.specs.Hitless.{ShowsOldOrNew}
use Rattle.rule_model.specs.declared.Rule.{Rule}
use Rattle.rule_model.specs.RuleSet.{answer}
use Rattle.replay.specs.declared.Act.{Act}
use Rattle.replay.specs.declared.Act.TheVariants.{Command, Ask, All, Probe, Packet, Commit, Trial, Crash}
use Rattle.script_runs.specs.Script.{Whole, acts_of}
use Rattle.report_lines.specs.Sizes.{sizes_by}
use Rattle.replay.specs.Script.{Script, script_kind, script_of}
use Rattle.replay.specs.Effects.{Setting, Effect, Acts, Prints, journal_of, traced, trace_line, deed_told, drain_told, write_told, searches_of, flushed, searched_after, waiting_after, effects_of}
use Rattle.replay.specs.Fates.{IsCrash}
use Rattle.settled_changes.specs.declared.requested.Requested.TheVariants.{Nothing}
use Rattle.replay.specs.Run.{Progress, start, Commits, Tries, Crashes, actions_back, actions_before, actions_for, actions_over, carried, IsCutBeforeCrash, Judged, HasEffects, pending_verdict, settled_at}
use Rattle.replay.specs.Early.{IsPartedAt, parts_at}
use Rattle.replay.specs.Text.{aborted_line, drain_line, restarted_line}
use Rattle.replay.specs.Reports.{done_line, packet_told}
use Rattle.script_runs.specs.declared.Status.{Status}
use Rattle.script_runs.specs.declared.Status.TheVariants.{Done, Refused, Script as ScriptFault, ReadFault, WriteFault, DeviceFault, Memory, Usage}
use Rattle.tcam_cli.proofs.Checks.{told-hitless}
use Rattle.script_runs.specs.Outcomes.{IsAtAct, IsEffectDue, IsOutOfMemory, IsOutOfMemoryAtAct}
use Rattle.tcam_cli.specs.Headline.{Job, NoJob, Tells, Reads, Makes, Verifies, run_kind, script_so_far, IsComplete, IsOutcome, IsCarriedOut}
use Rattle.tcam_cli.specs.MadeScript.{made_script}
use Rattle.tcam_cli.specs.Readings.{reading_by}
use Rattle.tcam_cli.specs.InTwo.{CommitTakes, RunsBy, TakesBy}
use Rattle.tcam_cli.specs.AllTheWay.{MakesInOne, Stands, sets_through, sets_of, AnswersAllTheWay, EndsAtLast, EndsAfter, CrashesNowhere, EndsAfterSome, IsNoProbe, TellsNoWrite, IsHitlessRun, IsHitlessJob}
use Rattle.replay.proofs.lines.Effects.{written-append}
use Rattle.replay.proofs.lines.Written.{written-segment}
use Rattle.replay.proofs.lines.Opened.{carried-words, so_far-words}
use Rattle.tcam_cli.proofs.OneMore.{run-more, none-probed}
use Rattle.tcam_cli.proofs.LedSets.{more-sets, sets_judged}
use Rattle.tcam_cli.proofs.AllTheWay.{RunGoes, cut-answers, cut-within, run-goes, wider}
use Rattle.tcam_cli.proofs.CutActs.{CutsInFirst, CutsSomewhere, CutsWithin, alone, cut-somewhere}
use Rattle.tcam_cli.proofs.PartedWrites.{first-during, first-shows, front-shows, whole_set}
use Rattle.tcam_cli.proofs.TwoParts.{parts-true}
use Rattle.tcam_cli.proofs.CutCrash.{AsCommit, cut-as_commit, stops-as_commit}
use Rattle.script_runs.proofs.FirstActs.{AreFirstActs, first-acts}

-- with some trials taken back
abbrev AnswersSome : Setting → ℕ → Script → List Write → Type 0
AnswersSome setting slots script writes = (backs : List Bool) × AnswersAllTheWay (blank slots) (sets_of setting backs script) writes

complete : (setting : Setting) (slots : ℕ) (script : Script) (status : Status) (effects : List Effect) → IsComplete setting slots script status effects
    → (backs : List Bool) × AnswersAllTheWay (blank slots) (sets_of setting backs script) (journal_of effects) × EndsAtLast (blank slots) (sets_of setting backs script) (journal_of effects)
complete setting slots script status effects is =
    let goes = run-goes setting slots (acts_of script) is.body is.last is.run in
    let both = subst (λ writes. AnswersAllTheWay (blank slots) (sets_of setting goes.0 script) writes × EndsAtLast (blank slots) (sets_of setting goes.0 script) writes)
    (sym (ap journal_of is.effects_are ∙ written-append is.body _ ∙ append-nil (journal_of is.body))) goes.1 in
    (goes.0, both.0, both.1)

-- a run that is cut in the middle of an act, by all that this would have done
abbrev WholeAct : (setting : Setting) (slots : ℕ) (script : Script) (effects : List Effect) (due : Effect) (at : IsAtAct (run_kind setting slots) script effects due) → CutsWithin setting at.before at.act at.front due → Type 0
WholeAct setting slots script effects due at cut = (backs : List Bool) × RunGoes setting slots backs (at.done ++ at.act ∷ []) (at.body ++ (at.front ++ due ∷ cut.back))

whole-act : (setting : Setting) (slots : ℕ) (script : Script) (effects : List Effect) (due : Effect) (at : IsAtAct (run_kind setting slots) script effects due) (cut : CutsWithin setting at.before at.act at.front due) → WholeAct setting slots script effects due at cut
whole-act setting slots script effects due at cut =
    run-goes setting slots (at.done ++ at.act ∷ []) (at.body ++ (at.front ++ due ∷ cut.back)) cut.after
    (run-more setting slots at.done at.body at.before at.act (at.front ++ due ∷ cut.back) cut.after at.run cut.step)

in-step : (setting : Setting) (slots : ℕ) (script : Script) (effects : List Effect) (due : Effect) (at : IsAtAct (run_kind setting slots) script effects due) (cut : CutsWithin setting at.before at.act at.front due) (whole : WholeAct setting slots script effects due at cut)
    → AnswersAllTheWay (blank slots) (sets_of setting whole.0 script) (journal_of effects)
in-step setting slots script effects due at cut whole =
    subst (λ effects. AnswersAllTheWay (blank slots) (sets_of setting whole.0 script) (journal_of effects)) (sym at.effects_are)
    (cut-answers setting slots whole.0 at.done at.act at.later (acts_of script) at.body at.front (due ∷ cut.back) at.acts whole.1)

-- or within a commit, by what each of its writes leaves: the old or the new answer
within : (setting : Setting) (slots : ℕ) (script : Script) (done : List Act) (act : Act) (later : List Act) (body front : List Effect) (before : Progress) → acts_of script ≡ done ++ act ∷ later
    → RunsBy setting slots done body before → (new : List Rule)
    → sets_through setting [] before.rules before.batch before.asked (act ∷ later) ≡ Stands before.rules ∷ sets_through setting [] new [] Nothing later
    → ((n : ℕ) → ShowsOldOrNew (state_after before.state (take n (journal_of front))) before.rules new) → AnswersSome setting slots script (journal_of (body ++ front))
within setting slots script done act later body front before acts run new sets during =
    let some = cut-within setting slots done body before run act later new (journal_of front) sets during in (
      some.0,
      subst (λ writes. AnswersAllTheWay (blank slots) (sets_of setting some.0 script) writes) (sym (written-append body front))
          (subst (λ (all : List Act). AnswersAllTheWay (blank slots) (sets_through setting some.0 [] [] Nothing all) (journal_of body ++ journal_of front)) (sym acts) some.1),
    )

-- of a commit that crashes later, by all that a commit would have done
as-commits : (setting : Setting) (slots : ℕ) (script : Script) (done : List Act) (after : ℕ) (later : List Act) (body front : List Effect) (before : Progress) → acts_of script ≡ done ++ Crash after ∷ later
    → RunsBy setting slots done body before → pending_verdict setting before ≡ Accepted → AsCommit setting before front → AnswersSome setting slots script (journal_of (body ++ front))
as-commits setting slots script done after later body front before acts run accepted whole =
    let commits : Commits setting (settled_at before) (front ++ whole.back) whole.after = subst (λ judged. Judged Commits setting (settled_at before) judged (front ++ whole.back) whole.after) accepted whole.step in
    let written : journal_of (front ++ whole.back) ≡ commits.made = ap journal_of commits.effects_are ∙ written-segment setting (settled_at before) commits.made _ in
    within setting slots script done (Crash after) later body front before acts run (whole_set before)
    (ap (sets_judged setting [] before.rules (settled_at before).batch later) accepted)
    (first-during before.state before.rules (whole_set before) (journal_of front) (journal_of whole.back) commits.made (sym written ∙ written-append front whole.back) commits.writes.segment.hitless.on_the_way.during)

-- the writes before a crash
before-crash : (setting : Setting) (slots : ℕ) (script : Script) (effects : List Effect) (due : Effect) (at : IsAtAct (run_kind setting slots) script effects due) → IsCutBeforeCrash setting at.before at.act at.front due
    → AnswersSome setting slots script (journal_of effects)
before-crash setting slots script effects due at cut =
    let whole = cut-as_commit setting at.before at.act at.front due cut in
    let first : AsCommit setting at.before at.front = record {
      back = due ∷ whole.back;
      after = whole.after;
      step = subst (λ effects. HasEffects setting at.before Commit effects whole.after) (append_assoc at.front (due ∷ []) whole.back) whole.step;
    } in
    let acts : acts_of script ≡ at.done ++ Crash cut.after ∷ at.later = at.acts ∙ ap (λ act. at.done ++ act ∷ at.later) cut.act_is in
    subst (λ effects. AnswersSome setting slots script (journal_of effects)) (sym at.effects_are)
    (as-commits setting slots script at.done cut.after at.later at.body at.front at.before acts at.run cut.accepted first)

-- the writes of the first of two parts
in-first : (setting : Setting) (slots : ℕ) (script : Script) (done later : List Act) (body front : List Effect) (before : Progress) → acts_of script ≡ done ++ Commit ∷ later
    → RunsBy setting slots done body before → IsPartedAt setting before
    → ((n : ℕ) → ShowsOldOrNew (state_after before.state (take n (journal_of front))) before.rules (whole_set before)) → AnswersSome setting slots script (journal_of (body ++ front))
in-first setting slots script done later body front before acts run right during =
    within setting slots script done Commit later body front before acts run (whole_set before)
    (ap (λ in_two. sets_judged setting [] before.rules (settled_at before).batch later (elim in_two [ true ↦ Accepted | false ↦ pending_verdict setting before ])) (parts-true setting before right)) during

cut-first : (setting : Setting) (slots : ℕ) (script : Script) (effects : List Effect) (due : Effect) (at : IsAtAct (run_kind setting slots) script effects due) → CutsInFirst setting at.before at.act at.front due
    → AnswersSome setting slots script (journal_of effects)
cut-first setting slots script effects due at cut =
    let acts : acts_of script ≡ at.done ++ Commit ∷ at.later = at.acts ∙ ap (λ act. at.done ++ act ∷ at.later) cut.act_is in
    subst (λ effects. AnswersSome setting slots script (journal_of effects)) (sym at.effects_are)
    (in-first setting slots script at.done at.later at.body at.front at.before acts at.run cut.right (front-shows setting at.before cut.right at.front (due ∷ cut.back) cut.after cut.step))

at-act : (setting : Setting) (slots : ℕ) (script : Script) (effects : List Effect) (due : Effect) (at : IsAtAct (run_kind setting slots) script effects due) → AnswersSome setting slots script (journal_of effects)
at-act setting slots script effects due at = go (cut-somewhere setting at.before at.act at.front due at.cut)
  where
    go : CutsSomewhere setting at.before at.act at.front due → AnswersSome setting slots script (journal_of effects)
    go (inl cut) = let whole = whole-act setting slots script effects due at cut in (whole.0, in-step setting slots script effects due at cut whole)
    go (inr (inl cut)) = before-crash setting slots script effects due at cut
    go (inr (inr cut)) = cut-first setting slots script effects due at cut

at-due : (setting : Setting) (slots : ℕ) (script : Script) (effects : List Effect) (due : Effect) → IsEffectDue (run_kind setting slots) script effects due → AnswersSome setting slots script (journal_of effects)
at-due setting slots script effects due (inl at) = at-act setting slots script effects due at
at-due setting slots script effects due (inr end) = let goes = run-goes setting slots (acts_of script) effects end.last end.run in (goes.0, goes.1.0)

-- some first acts, all of them carried out
ends-after : (setting : Setting) (slots : ℕ) (backs : List Bool) (script : Script) (done later : List Act) (effects : List Effect) → acts_of script ≡ done ++ later
    → RunGoes setting slots backs done effects → EndsAfter (blank slots) setting backs script done (journal_of effects)
ends-after setting slots backs script done later effects same goes =
    let more = more-sets setting backs [] [] Nothing done later in
    record {
      later = later;
      acts = same;
      behind = more.0;
      sets = ap (sets_through setting backs [] [] Nothing) same ∙ more.1;
      answers = goes.0;
      ends = goes.1;
    }

abbrev AfterActs : Setting → ℕ → Script → List Act → List Write → Type 0
AfterActs setting slots script done writes = (backs : List Bool) × EndsAfter (blank slots) setting backs script done writes

after-acts : (setting : Setting) (slots : ℕ) (script : Script) (done later : List Act) (effects : List Effect) (last : Progress) → acts_of script ≡ done ++ later
    → RunsBy setting slots done effects last → AfterActs setting slots script done (journal_of effects)
after-acts setting slots script done later effects last same run =
    let goes = run-goes setting slots done effects last run in (goes.0, ends-after setting slots goes.0 script done later effects same goes.1)

whole-acts : (setting : Setting) (slots : ℕ) (backs : List Bool) (script : Script) (done : List Act) (writes : List Write) → EndsAfter (blank slots) setting backs script done writes
    → AnswersAllTheWay (blank slots) (sets_of setting backs script) writes
whole-acts setting slots backs script done writes is =
    wider (blank slots) (sets_through setting backs [] [] Nothing done) (sets_of setting backs script) writes (is.behind, is.sets) is.answers

-- where memory was wanting: all of some of them, unless a commit crashes
abbrev WantsMemory : Setting → ℕ → Script → List Write → Type 0
WantsMemory setting slots script writes =
    (backs : List Bool) × AnswersAllTheWay (blank slots) (sets_of setting backs script) writes × (CrashesNowhere script → MakesInOne setting → EndsAfterSome (blank slots) setting backs script writes)

wants-none : (setting : Setting) (slots : ℕ) (script : Script) (done later : List Act) (effects : List Effect) (last : Progress) → acts_of script ≡ done ++ later
    → RunsBy setting slots done effects last → WantsMemory setting slots script (journal_of effects)
wants-none setting slots script done later effects last same run =
    let ends = after-acts setting slots script done later effects last same run in
    (ends.0, whole-acts setting slots ends.0 script done (journal_of effects) ends.1, λ nowhere in_one. (done, ends.1))

-- a script with a crash has one
has-crash : (done : List Act) (after : ℕ) (later : List Act) → AllByRecursion (λ act. IsCrash act → ⊥) (done ++ Crash after ∷ later) → ⊥
has-crash [] after later nowhere = nowhere.0 tt
has-crash (act ∷ done) after later nowhere = has-crash done after later nowhere.1

wants-at : (setting : Setting) (slots : ℕ) (script : Script) (effects : List Effect) (at : IsOutOfMemoryAtAct (run_kind setting slots) script effects) → WantsMemory setting slots script (journal_of effects)
wants-at setting slots script effects at = subst (λ effects. WantsMemory setting slots script (journal_of effects)) (sym at.effects_are) (by at.act at.acts at.front at.needs)
  where
    nothing : (act : Act) → acts_of script ≡ at.done ++ act ∷ at.later → (front : List Effect) → front ≡ [] → WantsMemory setting slots script (journal_of (at.body ++ front))
    nothing act acts front none =
        subst (λ effects. WantsMemory setting slots script (journal_of effects)) (sym (ap (λ effects. at.body ++ effects) none ∙ append-nil at.body))
        (wants-none setting slots script at.done (act ∷ at.later) at.body at.before acts at.run)

    committed : (parts in_two : Bool) → acts_of script ≡ at.done ++ Commit ∷ at.later → (front : List Effect) → CommitTakes parts in_two setting at.before front → WantsMemory setting slots script (journal_of (at.body ++ front))
    committed false in_two acts front needs = nothing Commit acts front needs.1
    committed true false acts front (inl none) = nothing Commit acts front none
    committed true false acts front (inr needs) = nothing Commit acts front needs.1
    committed true true acts front (inl none) = nothing Commit acts front none
    committed true true acts front (inr (inl needs)) = nothing Commit acts front needs.1
    committed true true acts front (inr (inr rest)) =
        let same : front ≡ rest.first = rest.effects_are ∙ ap (λ (more : List Effect). rest.first ++ more) rest.rest.1 ∙ append-nil rest.first in
        let some = in-first setting slots script at.done at.later at.body front at.before acts at.run rest.right
        (subst (λ (made : List Effect). (n : ℕ) → ShowsOldOrNew (state_after at.before.state (take n (journal_of made))) at.before.rules (whole_set at.before)) (sym same) (first-shows setting at.before rest.right rest.first rest.middle rest.early)) in
        (some.0, some.1, λ nowhere in_one. absurd (let bad : true ≡ false = sym rest.right.0 ∙ in_one in cc))

    by : (act : Act) → acts_of script ≡ at.done ++ act ∷ at.later → (front : List Effect) → TakesBy setting at.before act front → WantsMemory setting slots script (journal_of (at.body ++ front))
    by (Command change) acts front needs = nothing (Command change) acts front needs
    by (Ask request) acts front needs = nothing (Ask request) acts front needs
    by All acts front needs = absurd needs
    by (Probe key) acts front needs = absurd needs
    by (Packet key) acts front needs = absurd needs
    by Commit acts front needs = committed setting.parts (parts_at setting at.before) acts front needs
    by (Trial most) acts front needs = nothing (Trial most) acts front needs.1
    by (Crash after) acts front (inl none) = nothing (Crash after) acts front none.1
    by (Crash after) acts front (inr (accepted, stops)) =
        let some = as-commits setting slots script at.done after at.later at.body front at.before acts at.run accepted (stops-as_commit setting at.before after front accepted stops) in
        (some.0, some.1, λ nowhere in_one. absurd (has-crash at.done after at.later (subst (AllByRecursion (λ act. IsCrash act → ⊥)) acts nowhere)))

for-memory : (setting : Setting) (slots : ℕ) (script : Script) (effects : List Effect) → IsOutOfMemory (run_kind setting slots) script effects → WantsMemory setting slots script (journal_of effects)
for-memory setting slots script effects (inl none) = wants-none setting slots script [] (acts_of script) effects (start slots) refl (none, refl)
for-memory setting slots script effects (inr at) = wants-at setting slots script effects at

-- ---- where no write has a line, a line is the last effect of its act

-- the actions of a commit without a trace and without probes have no line
quiet-flush : (setting : Setting) (number : ℕ) (state : State) (waiting : ℕ) → flushed setting.family [] number state waiting ≡ []
quiet-flush setting number state zero = refl
quiet-flush setting number state (suc more) = quiet-flush setting number state more

quiet-searches : (setting : Setting) (number waiting : ℕ) (state : State) → searched_after setting [] number waiting state ≡ []
quiet-searches setting number waiting state = go (waiting == setting.depth)
  where
    go : (full : Bool) → ◌≡◌ {A = List Effect} (elim full [ true ↦ searches_of setting.family number state 1 [] | false ↦ [] ]) []
    go true = refl
    go false = refl

quiet-actions : (setting : Setting) (number waiting : ℕ) (state : State) (actions : List Action) → setting.trace ≡ false → setting.json ≡ false → effects_of setting [] number waiting state actions ≡ map Acts actions
quiet-actions setting number waiting state [] quiet words = refl
quiet-actions setting number waiting state (Written write ∷ actions) quiet words =
    let next = apply state write in
    let later = effects_of setting [] (number + 1) (min (waiting + 1) setting.depth) next actions in
    let deed = deed_told setting.names state write in
    ap (λ json. Acts (Written write) ∷ (write_told json setting.trace setting.family (number + 1) deed write ++ (searched_after setting [] (number + 1) waiting next ++ later))) words
    ∙ ap (λ trace. Acts (Written write) ∷ (traced trace (trace_line setting.family (number + 1) deed write) ++ (searched_after setting [] (number + 1) waiting next ++ later))) quiet
    ∙ ap (λ found. Acts (Written write) ∷ (found ++ later)) (quiet-searches setting (number + 1) waiting next)
    ∙ ap (λ effects. Acts (Written write) ∷ effects) (quiet-actions setting (number + 1) (min (waiting + 1) setting.depth) next actions quiet words)
quiet-actions setting number waiting state (Drained ∷ actions) quiet words =
    let later = effects_of setting [] number 0 state actions in
    ap (λ lines. lines ++ Acts Drained ∷ (drain_told setting.json setting.trace number ++ later)) (quiet-flush setting number state waiting)
    ∙ ap (λ json. Acts Drained ∷ (drain_told json setting.trace number ++ later)) words
    ∙ ap (λ trace. Acts Drained ∷ (traced trace (drain_line number) ++ later)) quiet
    ∙ ap (λ effects. Acts Drained ∷ effects) (quiet-actions setting number 0 state actions quiet words)

quiet-carried : (setting : Setting) (before : Progress) (actions : List Action) → setting.trace ≡ false → setting.json ≡ false → before.probes ≡ [] → carried setting before actions ≡ map Acts actions
quiet-carried setting before actions quiet words none =
    let number = length (writes_in actions) in
    let state = state_after before.state (writes_in actions) in
    let waiting = waiting_after setting.depth 0 actions in
    carried-words setting before actions words
    ∙ ap (λ probes. effects_of setting probes 0 0 before.state actions ++ flushed setting.family probes number state waiting) none
    ∙ ap (λ lines. effects_of setting [] 0 0 before.state actions ++ lines) (quiet-flush setting number state waiting)
    ∙ append-nil (effects_of setting [] 0 0 before.state actions) ∙ quiet-actions setting 0 0 before.state actions quiet words

not-none : (front : List Effect) (effect : Effect) (back : List Effect) → front ++ effect ∷ back ≡ [] → ⊥
not-none [] effect back is = cc
not-none (first ∷ front) effect back is = cc

-- actions are no lines
no-line : (made : List Action) (front : List Effect) (line : List ℕ) (back : List Effect) → map Acts made ≡ front ++ Prints line ∷ back → ⊥
no-line [] front line back is = not-none front (Prints line) back (sym is)
no-line (action ∷ made) [] line back is = absurd (cc)
no-line (action ∷ made) (effect ∷ front) line back is = let more : map Acts made ≡ front ++ Prints line ∷ back = cc in no-line made front line back more

last-line : (made : List Action) (front back : List Effect) (line text : List ℕ) → front ++ Prints line ∷ back ≡ map Acts made ++ Prints text ∷ [] → back ≡ []
last-line [] [] back line text is = cc
last-line [] (effect ∷ front) back line text is = let none : front ++ Prints line ∷ back ≡ [] = cc in absurd (not-none front (Prints line) back none)
last-line (action ∷ made) [] back line text is = absurd (cc)
last-line (action ∷ made) (effect ∷ front) back line text is =
    let more : front ++ Prints line ∷ back ≡ map Acts made ++ Prints text ∷ [] = cc in last-line made front back line text more

last-judged : (setting : Setting) (before : Progress) (is : Verdict) (front back : List Effect) (line : List ℕ) (after : Progress)
    → setting.trace ≡ false → setting.json ≡ false → before.probes ≡ [] → Judged Commits setting before is (front ++ Prints line ∷ back) after → back ≡ []
last-judged setting before Accepted front back line after quiet words none step =
    last-line (actions_for setting before step.made) front back line (done_line setting.json before.early (before.commits + 1) step.writes.counts)
    (step.effects_are ∙ ap (λ effects. effects ++ Prints (done_line setting.json before.early (before.commits + 1) step.writes.counts) ∷ []) (quiet-carried setting before (actions_for setting before step.made) quiet words none))
last-judged setting before (Unsound fault) front back line after quiet words none step = last-line [] front back line _ step.0
last-judged setting before (OutOfBits field needed free) front back line after quiet words none step = last-line [] front back line _ step.0
last-judged setting before (OutOfSlots needed free) front back line after quiet words none step = last-line [] front back line _ step.0

last-tried : (most : ℕ) (setting : Setting) (before : Progress) (is : Verdict) (front back : List Effect) (line : List ℕ) (after : Progress)
    → setting.trace ≡ false → setting.json ≡ false → before.probes ≡ [] → Judged (Tries most) setting before is (front ++ Prints line ∷ back) after → back ≡ []
last-tried most setting before Accepted front back line after quiet words none (inl commits) = last-judged setting before Accepted front back line after quiet words none commits.0
last-tried most setting before Accepted front back line after quiet words none (inr returns) =
    let actions = actions_back setting before most returns.made in
    last-line actions front back line (aborted_line (before.commits + 1) (2 * most))
    (returns.effects_are ∙ ap (λ effects. effects ++ Prints (aborted_line (before.commits + 1) (2 * most)) ∷ []) (quiet-carried setting before actions quiet words none))
last-tried most setting before (Unsound fault) front back line after quiet words none step = last-line [] front back line _ step.0
last-tried most setting before (OutOfBits field needed free) front back line after quiet words none step = last-line [] front back line _ step.0
last-tried most setting before (OutOfSlots needed free) front back line after quiet words none step = last-line [] front back line _ step.0

last-crashed : (limit : ℕ) (setting : Setting) (before : Progress) (is : Verdict) (front back : List Effect) (line : List ℕ) (after : Progress)
    → setting.trace ≡ false → setting.json ≡ false → before.probes ≡ [] → Judged (Crashes limit) setting before is (front ++ Prints line ∷ back) after → back ≡ []
last-crashed limit setting before Accepted front back line after quiet words none (inl commits) = last-judged setting before Accepted front back line after quiet words none commits.0
last-crashed limit setting before Accepted front back line after quiet words none (inr restarts) =
    let actions = actions_over setting before limit restarts.made restarts.rest in
    let text = restarted_line (before.commits + 1) limit (limit + length restarts.rest) in
    last-line actions front back line text
    (restarts.effects_are ∙ ap (λ effects. effects ++ Prints text ∷ []) (quiet-carried setting before actions quiet words none))
last-crashed limit setting before (Unsound fault) front back line after quiet words none step = last-line [] front back line _ step.0
last-crashed limit setting before (OutOfBits field needed free) front back line after quiet words none step = last-line [] front back line _ step.0
last-crashed limit setting before (OutOfSlots needed free) front back line after quiet words none step = last-line [] front back line _ step.0

last-step : (setting : Setting) (before : Progress) (act : Act) (front back : List Effect) (line : List ℕ) (after : Progress)
    → setting.trace ≡ false → setting.json ≡ false → before.probes ≡ [] → HasEffects setting before act (front ++ Prints line ∷ back) after → back ≡ []
last-step setting before (Command change) front back line after quiet words none step = absurd (not-none front (Prints line) back step.0)
last-step setting before (Ask request) front back line after quiet words none step = absurd (not-none front (Prints line) back step.0)
last-step setting before All front back line after quiet words none step = absurd (not-none front (Prints line) back step.0)
last-step setting before (Probe key) front back line after quiet words none step = absurd (not-none front (Prints line) back step.0)
last-step setting before (Packet key) front back line after quiet words none step =
    last-line [] front back line _
    (step.0 ∙ ap (λ json. packet_told (record setting { json = json }) (answer before.rules key)) words)
last-step setting before Commit front back line after quiet words none step =
    last-judged setting (settled_at before) (pending_verdict setting before) front back line after quiet words none step
last-step setting before (Trial most) front back line after quiet words none step =
    last-tried most setting (settled_at before) (pending_verdict setting before) front back line after quiet words none step
last-step setting before (Crash limit) front back line after quiet words none step =
    last-crashed limit setting (settled_at before) (pending_verdict setting before) front back line after quiet words none step

-- the first of some acts are no probes either
none-first : (done later : List Act) → AllByRecursion IsNoProbe (done ++ later) → AllByRecursion IsNoProbe done
none-first [] later none = tt
none-first (act ∷ done) later none = (none.0, none-first done later none.1)

-- so where a line fails the writes of its act are all made
abbrev LineFails : Setting → ℕ → Script → List Write → Type 0
LineFails setting slots script writes =
    (backs : List Bool) × AnswersAllTheWay (blank slots) (sets_of setting backs script) writes × (TellsNoWrite setting script → MakesInOne setting → EndsAfterSome (blank slots) setting backs script writes)

at-line : (setting : Setting) (slots : ℕ) (script : Script) (effects : List Effect) (line : List ℕ) → IsEffectDue (run_kind setting slots) script effects (Prints line) → LineFails setting slots script (journal_of effects)
at-line setting slots script effects line (inl at) = go (cut-somewhere setting at.before at.act at.front (Prints line) at.cut)
  where
    probes-none : TellsNoWrite setting script → at.before.probes ≡ []
    probes-none quiet = none-probed setting (start slots) at.done at.body at.before (none-first at.done (at.act ∷ at.later) (subst (AllByRecursion IsNoProbe) at.acts quiet.2)) at.run

    go : CutsSomewhere setting at.before at.act at.front (Prints line) → LineFails setting slots script (journal_of effects)
    go (inl cut) =
        let whole = whole-act setting slots script effects (Prints line) at cut in
        let done : List Act = at.done ++ at.act ∷ [] in (
          whole.0,
          in-step setting slots script effects (Prints line) at cut whole,
          λ quiet in_one.
              let none = last-step setting at.before at.act at.front cut.back line cut.after quiet.0 quiet.1 (probes-none quiet) (alone setting at.before at.act _ cut.after in_one cut.step) in
              let all : List Effect = at.body ++ (at.front ++ Prints line ∷ cut.back) in
              let same : journal_of all ≡ journal_of effects =
              ap (λ back. journal_of (at.body ++ (at.front ++ Prints line ∷ back))) none
              ∙ ap journal_of (sym (append_assoc at.body at.front (Prints line ∷ [])))
              ∙ written-append (at.body ++ at.front) (Prints line ∷ []) ∙ append-nil (journal_of (at.body ++ at.front)) ∙ sym (ap journal_of at.effects_are) in (
                done,
                subst (λ writes. EndsAfter (blank slots) setting whole.0 script done writes) same
                    (ends-after setting slots whole.0 script done at.later all (at.acts ∙ sym (append_assoc at.done (at.act ∷ []) at.later)) whole.1),
              ),
        )
    go (inr (inr cut)) =
        let some = cut-first setting slots script effects (Prints line) at cut in
        (some.0, some.1, λ quiet in_one. absurd (let bad : true ≡ false = sym cut.right.0 ∙ in_one in cc))
    go (inr (inl cut)) =
        let some = before-crash setting slots script effects (Prints line) at cut in (
          some.0,
          some.1,
          λ quiet in_one.
              let actions = actions_before setting (settled_at at.before) cut.after cut.made in
              let all : map Acts actions ≡ at.front ++ Prints line ∷ cut.back =
              sym (quiet-actions setting 0 0 at.before.state actions quiet.0 quiet.1) ∙ ap (λ probes. effects_of setting probes 0 0 at.before.state actions) (sym (probes-none quiet))
              ∙ sym (so_far-words setting (settled_at at.before) actions quiet.1) ∙ cut.parts in
              absurd (no-line actions at.front line cut.back all),
        )
at-line setting slots script effects line (inr end) =
    let goes = run-goes setting slots (acts_of script) effects end.last end.run in (
      goes.0,
      goes.1.0,
      λ quiet in_one. (acts_of script, ends-after setting slots goes.0 script (acts_of script) [] effects (sym (append-nil (acts_of script))) goes.1),
    )

-- ---- each outcome

-- whatever comes of a run, packets see nothing but the sets of its script
pub outcome_answers : (setting : Setting) (slots : ℕ) (script came : Script) (status : Status) (effects : List Effect) (partial : List ℕ)
    → (came.last ≡ Whole → AreFirstActs (acts_of came) (acts_of script)) → IsOutcome setting slots script came status effects partial
    → IsHitlessRun setting slots script came status (journal_of effects)
outcome_answers setting slots script came Done effects partial first is =
    let goes = complete setting slots script Done effects is.0 in record { backs = goes.0; answers = goes.1; ends = goes.2 }
outcome_answers setting slots script came Refused effects partial first is =
    let goes = complete setting slots script Refused effects is.0 in record { backs = goes.0; answers = goes.1; ends = goes.2 }
outcome_answers setting slots script came ScriptFault effects partial first is =
    let goes = complete setting slots script ScriptFault effects is.0 in record { backs = goes.0; answers = goes.1; ends = goes.2 }
outcome_answers setting slots script came ReadFault effects partial first is =
    let some = first is.0.sound in
    let ends = after-acts setting slots script (acts_of came) some.0 effects is.0.last some.1 is.0.run in
    record { backs = ends.0; answers = whole-acts setting slots ends.0 script (acts_of came) (journal_of effects) ends.1; ends = ends.1 }
outcome_answers setting slots script came WriteFault effects partial first is =
    let fails = at-line setting slots script effects is.line is.due in record { backs = fails.0; answers = fails.1; ends = fails.2 }
outcome_answers setting slots script came DeviceFault effects partial first is =
    let some = at-due setting slots script effects _ is.0.due in record { backs = some.0; answers = some.1; ends = tt }
outcome_answers setting slots script came Memory effects partial first is =
    let wants = for-memory setting slots script effects is.0 in record { backs = wants.0; answers = wants.1; ends = wants.2 }
outcome_answers setting slots script came Usage effects partial first is = absurd is

-- so of a job that is carried out
pub hitless-job : (job : Job) (slots : ℕ) (status : Status) (left_old left_new taken_old taken_new : Option (List ℕ)) (events : List Action)
    → IsCarriedOut job slots status left_old left_new taken_old taken_new events → IsHitlessJob job slots status left_old left_new (writes_in events)
hitless-job NoJob slots status left_old left_new taken_old taken_new events is = ap writes_in is.1
hitless-job (Tells own) slots status left_old left_new taken_old taken_new events (text, is, told) = ap writes_in told.1
hitless-job (Reads setting) slots status None left_new taken_old taken_new events is = tt
hitless-job (Reads setting) slots status (Some old) None taken_old taken_new events is = tt
hitless-job (Reads setting) slots status (Some old) (Some new) taken_old taken_new events is =
    let n = length old - length new in
    let came : Script = script_so_far (sizes_by setting.large) (reading_by setting) (take n old) in
    let first : came.last ≡ Whole → AreFirstActs (acts_of came) (acts_of (script_of (sizes_by setting.large) (reading_by setting) old)) =
    λ sound. subst (λ bytes. AreFirstActs (acts_of came) (acts_of (script_of (sizes_by setting.large) (reading_by setting) bytes))) (take-append-drop n old) (first-acts (script_kind (sizes_by setting.large) (reading_by setting)) (take n old) (drop n old) sound) in
    subst (λ writes. IsHitlessRun setting slots (script_of (sizes_by setting.large) (reading_by setting) old) came status writes) (sym (ap writes_in is.1.events_is))
    (outcome_answers setting slots (script_of (sizes_by setting.large) (reading_by setting) old) came status is.1.effects is.1.partial first is.1.outcome)
hitless-job (Makes setting seed rules batches) slots status left_old left_new taken_old taken_new events is =
    let script = made_script seed rules batches in
    let made = is.1.1 in
    subst (λ writes. IsHitlessRun setting slots script script status writes) (sym (ap writes_in made.events_is))
    (outcome_answers setting slots script script status made.effects made.partial (λ sound. ([], sym (append-nil (acts_of script)))) made.outcome)
hitless-job Verifies slots status None left_new taken_old taken_new events is = (ap writes_in is.0, λ done. tt)
hitless-job Verifies slots status (Some old) None taken_old taken_new events is = (ap writes_in is.0, λ done. tt)
hitless-job Verifies slots status (Some old) (Some new) taken_old taken_new events is = (ap writes_in is.0, λ done. told-hitless old status is.1.report is.1.told done)
