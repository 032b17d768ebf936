-- What packets see of each outcome of a run.
use Rattle.std.proofs.Common.{◌≡◌, ◌≢◌, ◌⊎◌, inl, inr, ℕ, ◌-◌, false, Option, Some, None, List, [], ◌∷◌, ◌++◌, length, take, drop, refl, ap, sym, ◌∙◌, subst, append_assoc, append-nil, take-append-drop}
use Rattle.script_runs.specs.declared.Status.{Status}
use Rattle.script_runs.specs.declared.Status.TheVariants.{Done, Refused, Script as ScriptFault, ReadFault, WriteFault, DeviceFault, Memory, Usage}
use Rattle.script_runs.specs.Script.{Reading, Script, Whole, acts_of, script_of, script_so_far}
use Rattle.script_runs.specs.Runs.{Run}
use Rattle.script_runs.specs.Outcomes.{IsAtAct, IsAtEnd, IsComplete, IsEffectDue, IsOutOfMemory, IsOutcome, RunKind}
use Rattle.script_runs.proofs.Joined.{run-more}
use Rattle.script_runs.proofs.FirstActs.{AreFirstActs, first-acts}
use Rattle.split_device.specs.declared.SplitAction.{SplitAction}
use Rattle.split_device.specs.declared.SplitWrite.{SplitWrite}
use Rattle.split_device.specs.State.{SplitState, blank_split}
use Rattle.router.specs.declared.Side.{Side}
use Rattle.router.specs.declared.Side.TheVariants as side
use Rattle.router.specs.declared.RouterAct.{RouterAct}
use Rattle.router.specs.Script.{Pending}
use Rattle.router.specs.Run.{DeviceSlots, Effect, HasEffects, Prints, Progress, Setting, start}
use Rattle.router.specs.Taken.{MadeOfBoth}
use Rattle.report_lines.specs.Sizes.{sizes_by}
use Rattle.router_runs.specs.Scripts.{router_scripts}
use Rattle.router_runs.specs.Runs.{router_kind}
use Rattle.router_runs.specs.RuleLists.{no_rules, table_sets, table_sets_through}
use Rattle.router_runs.specs.AllTheWay.{LooksUpAllTheWay, EndsAfterActs, EndsAfterSomeActs, EndsAtLastSet, IsHitlessTable}
use Rattle.router_runs.specs.Promise.{IsHitlessRouter, IsRouterCarriedOut, events_on, slots_on}
use Rattle.router_runs.proofs.Effects.{IsCutAtTable, cut-at-table, line-is-last}
use Rattle.router_runs.proofs.Answers.{wider}
use Rattle.router_runs.proofs.Sets.{more-sets}
use Rattle.router_runs.proofs.AllTheWay.{RunGoes, cut-answers, made-append, made_by, run-goes}

module _ (which : Side) (reading : Reading RouterAct) (setting : Setting) (slots : DeviceSlots) (script : Script RouterAct) where
  abbrev kind : RunKind RouterAct Pending Progress Effect (Side × SplitWrite) MadeOfBoth
  kind = router_kind reading setting slots

  abbrev blank : SplitState
  blank = blank_split (slots_on which slots)

  abbrev AnswersScript : List SplitAction → Type 0
  AnswersScript events = LooksUpAllTheWay blank (table_sets which setting script) events

  -- a line makes nothing
  line-none : (effects : List Effect) (line : List ℕ) → made_by which (effects ++ Prints line ∷ []) ≡ made_by which effects
  line-none effects line = made-append which effects (Prints line ∷ []) ∙ ap (λ (more : List SplitAction). made_by which effects ++ more) (none which) ∙ append-nil (made_by which effects)
    where
      none : (one : Side) → made_by one (Prints line ∷ []) ≡ []
      none side.List = refl
      none side.Routes = refl

  complete : (status : Status) (effects : List Effect) → IsComplete kind script status effects
      → AnswersScript (made_by which effects) × EndsAtLastSet blank (table_sets which setting script) (made_by which effects)
  complete status effects is =
      subst (λ (events : List SplitAction). AnswersScript events × EndsAtLastSet blank (table_sets which setting script) events)
      (sym (ap (made_by which) is.effects_are ∙ line-none is.body _)) (run-goes which setting slots (acts_of script) is.body is.last is.run)

  -- a run that is cut in the middle of an act, by all that this would have done
  whole-act : (effects : List Effect) (due : Effect) (at : IsAtAct kind script effects due) → RunGoes which setting slots (at.done ++ at.act ∷ []) (at.body ++ (at.front ++ due ∷ at.cut.back))
  whole-act effects due at =
      run-goes which setting slots (at.done ++ at.act ∷ []) (at.body ++ (at.front ++ due ∷ at.cut.back)) at.cut.after
      (run-more (HasEffects setting slots) start at.done at.body at.before at.act (at.front ++ due ∷ at.cut.back) at.cut.after at.run at.cut.step)

  at-act : (effects : List Effect) (due : Effect) → IsAtAct kind script effects due → AnswersScript (made_by which effects)
  at-act effects due at =
      subst (λ (all : List Effect). AnswersScript (made_by which all)) (sym at.effects_are)
      (cut-answers which setting slots at.done at.act at.later (acts_of script) at.body at.front (due ∷ at.cut.back) at.acts (whole-act effects due at))

  at-due : (effects : List Effect) (due : Effect) → IsEffectDue kind script effects due → AnswersScript (made_by which effects)
  at-due effects due (inl at) = at-act effects due at
  at-due effects due (inr end) = (run-goes which setting slots (acts_of script) effects end.last end.run).0

  -- some first acts, all of them carried out
  ends-after : (done later : List RouterAct) (effects : List Effect) → acts_of script ≡ done ++ later → RunGoes which setting slots done effects
      → EndsAfterActs blank which setting script done (made_by which effects)
  ends-after done later effects same goes =
      let more = more-sets which setting no_rules done later in
      record {
        later = later;
        acts = same;
        behind = more.0;
        sets = ap (table_sets_through which setting no_rules) same ∙ more.1;
        answers = goes.0;
        ends = goes.1;
      }

  after-acts : (done later : List RouterAct) (effects : List Effect) (last : Progress) → acts_of script ≡ done ++ later → Run (HasEffects setting slots) start done effects last
      → EndsAfterActs blank which setting script done (made_by which effects)
  after-acts done later effects last same run = ends-after done later effects same (run-goes which setting slots done effects last run)

  whole-acts : (done : List RouterAct) (events : List SplitAction) → EndsAfterActs blank which setting script done events → AnswersScript events
  whole-acts done events is = wider blank (table_sets_through which setting no_rules done) (table_sets which setting script) is.behind events is.sets is.answers

  -- where memory was wanting: all of some of them
  wants-memory : (effects : List Effect) → IsOutOfMemory kind script effects → EndsAfterSomeActs blank which setting script (made_by which effects)
  wants-memory effects (inl none) = ([], after-acts [] (acts_of script) effects start refl (none, refl))
  wants-memory effects (inr at) = (
    at.done,
    subst (λ (all : List Effect). EndsAfterActs blank which setting script at.done (made_by which all)) (sym (at.effects_are ∙ ap (λ (front : List Effect). at.body ++ front) at.needs.1 ∙ append-nil at.body))
        (after-acts at.done (at.act ∷ at.later) at.body at.before at.acts at.run),
  )

  -- where the last line is due
  at-end : (effects : List Effect) (due : Effect) → IsAtEnd kind script effects due → EndsAfterSomeActs blank which setting script (made_by which effects)
  at-end effects due end = (acts_of script, after-acts (acts_of script) [] effects end.last (sym (append-nil (acts_of script))) end.run)

  -- where a line fails without a trace the parts of its act are all made
  at-line : (effects : List Effect) (line : List ℕ) → setting.trace ≡ false → IsEffectDue kind script effects (Prints line) → EndsAfterSomeActs blank which setting script (made_by which effects)
  at-line effects line quiet (inl at) =
      let none = line-is-last setting slots at.before at.act at.front at.cut.back line at.cut.after quiet at.cut.step in
      let all : List Effect = at.body ++ (at.front ++ Prints line ∷ at.cut.back) in
      let same : made_by which all ≡ made_by which effects =
      ap (λ (back : List Effect). made_by which (at.body ++ (at.front ++ Prints line ∷ back))) none
      ∙ ap (made_by which) (sym (append_assoc at.body at.front (Prints line ∷ [])))
      ∙ line-none (at.body ++ at.front) line ∙ sym (ap (made_by which) at.effects_are) in (
        at.done ++ at.act ∷ [],
        subst (λ (events : List SplitAction). EndsAfterActs blank which setting script (at.done ++ at.act ∷ []) events) same
            (ends-after (at.done ++ at.act ∷ []) at.later all (at.acts ∙ sym (append_assoc at.done (at.act ∷ []) at.later)) (whole-act effects (Prints line) at)),
      )
  at-line effects line quiet (inr end) = at-end effects (Prints line) end

  -- where the run is cut at the other table this one's part of the act isn't begun, or all made
  at-other : (effects : List Effect) (due : Effect) (at : IsAtAct kind script effects due)
      → (made_by which at.front ≡ []) ⊎ (made_by which at.front ≡ made_by which (at.front ++ due ∷ at.cut.back)) → EndsAfterSomeActs blank which setting script (made_by which effects)
  at-other effects due at (inl none) = (
    at.done,
    subst (λ (events : List SplitAction). EndsAfterActs blank which setting script at.done events)
        (sym (ap (made_by which) at.effects_are ∙ made-append which at.body at.front ∙ ap (λ (more : List SplitAction). made_by which at.body ++ more) none ∙ append-nil (made_by which at.body)))
        (after-acts at.done (at.act ∷ at.later) at.body at.before at.acts at.run),
  )
  at-other effects due at (inr all) =
      let whole : List Effect = at.front ++ due ∷ at.cut.back in (
        at.done ++ at.act ∷ [],
        subst (λ (events : List SplitAction). EndsAfterActs blank which setting script (at.done ++ at.act ∷ []) events)
            (made-append which at.body whole ∙ ap (λ (more : List SplitAction). made_by which at.body ++ more) (sym all) ∙ sym (made-append which at.body at.front) ∙ sym (ap (made_by which) at.effects_are))
            (ends-after (at.done ++ at.act ∷ []) at.later (at.body ++ whole) (at.acts ∙ sym (append_assoc at.done (at.act ∷ []) at.later)) (whole-act effects due at)),
      )

-- what was made of a table by an act that is cut at another
made-at-other : (which cut : Side) (front whole : List Effect) → IsCutAtTable cut front whole → which ≢ cut → (made_by which front ≡ []) ⊎ (made_by which front ≡ made_by which whole)
made-at-other side.List side.List front whole is other = absurd (other refl)
made-at-other side.Routes side.List front whole is other = inl is
made-at-other side.List side.Routes front whole is other = inr is
made-at-other side.Routes side.Routes front whole is other = absurd (other refl)

module _ (reading : Reading RouterAct) (setting : Setting) (slots : DeviceSlots) (script : Script RouterAct) where
  -- one of the tables at most is left within a commit
  others : (effects : List Effect) (due : Effect) → IsEffectDue (router_kind reading setting slots) script effects due
      → (cut : Side) × ((which : Side) → which ≢ cut → EndsAfterSomeActs (blank_split (slots_on which slots)) which setting script (made_by which effects))
  others effects due (inl at) =
      let some = cut-at-table setting slots at.before at.act at.front due at.cut.back at.cut.after at.cut.step in (
        some.0,
        λ which other. at-other which reading setting slots script effects due at (made-at-other which some.0 at.front (at.front ++ due ∷ at.cut.back) some.1 other),
      )
  others effects due (inr end) = (side.List, λ which other. at-end which reading setting slots script effects due end)

  -- whatever comes of a run, packets see nothing but the sets of its script
  outcome-answers : (came : Script RouterAct) (status : Status) (effects : List Effect) (partial : List ℕ) → (came.last ≡ Whole → AreFirstActs (acts_of came) (acts_of script))
      → IsOutcome (router_kind reading setting slots) script came status effects partial
      → (cut : Side) × ((which : Side) → IsHitlessTable cut which setting (slots_on which slots) script came status (made_by which effects))
  outcome-answers came Done effects partial first is = (side.List, λ which. let goes = complete which reading setting slots script Done effects is.0 in record { answers = goes.0; ends = goes.1 })
  outcome-answers came Refused effects partial first is = (side.List, λ which. let goes = complete which reading setting slots script Refused effects is.0 in record { answers = goes.0; ends = goes.1 })
  outcome-answers came ScriptFault effects partial first is =
      (side.List, λ which. let goes = complete which reading setting slots script ScriptFault effects is.0 in record { answers = goes.0; ends = goes.1 })
  outcome-answers came ReadFault effects partial first is = (
    side.List,
    λ which.
        let some = first is.0.sound in
        let ends = after-acts which reading setting slots script (acts_of came) some.0 effects is.0.last some.1 is.0.run in
        record { answers = whole-acts which reading setting slots script (acts_of came) (made_by which effects) ends; ends = ends },
  )
  outcome-answers came WriteFault effects partial first is =
      let some = others effects (Prints is.line) is.due in (
        some.0,
        λ which. record {
          answers = at-due which reading setting slots script effects (Prints is.line) is.due;
          ends = λ why. elim why [ inl quiet ↦ at-line which reading setting slots script effects is.line quiet is.due | inr other ↦ some.1 which other ];
        },
      )
  outcome-answers came DeviceFault effects partial first is =
      let some = others effects _ is.0.due in
      (some.0, λ which. record { answers = at-due which reading setting slots script effects _ is.0.due; ends = λ other. some.1 which other })
  outcome-answers came Memory effects partial first is = (
    side.List,
    λ which.
        let ends = wants-memory which reading setting slots script effects is.0 in
        record { answers = whole-acts which reading setting slots script ends.0 (made_by which effects) ends.1; ends = ends },
  )
  outcome-answers came Usage effects partial first is = absurd is

-- so of a run that is carried out
pub hitless-run : (reading : Reading RouterAct) (setting : Setting) (slots : DeviceSlots) (status : Status) (left_old left_new taken_old taken_new : Option (List ℕ)) (events : MadeOfBoth)
    → IsRouterCarriedOut reading setting slots status left_old left_new taken_old taken_new events → IsHitlessRouter reading setting slots status left_old left_new events
hitless-run reading setting slots status None left_new taken_old taken_new events is = tt
hitless-run reading setting slots status (Some old) None taken_old taken_new events is = tt
hitless-run reading setting slots status (Some old) (Some new) taken_old taken_new events is =
    let n = length old - length new in
    let script : Script RouterAct = script_of (router_scripts (sizes_by setting.large) reading) old in
    let came : Script RouterAct = script_so_far (router_scripts (sizes_by setting.large) reading) (take n old) in
    let first : came.last ≡ Whole → AreFirstActs (acts_of came) (acts_of script) =
    λ sound. subst (λ bytes. AreFirstActs (acts_of came) (acts_of (script_of (router_scripts (sizes_by setting.large) reading) bytes))) (take-append-drop n old) (first-acts (router_scripts (sizes_by setting.large) reading) (take n old) (drop n old) sound) in
    let shows = outcome-answers reading setting slots script came status is.1.effects is.1.partial first is.1.outcome in (
      shows.0,
      λ which. subst (λ (all : MadeOfBoth). IsHitlessTable shows.0 which setting (slots_on which slots) script came status (events_on which all)) (sym is.1.events_is) (shows.1 which),
    )
