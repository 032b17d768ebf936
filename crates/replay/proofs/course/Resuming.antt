-- An unfinished commit whose manager is the first, as a course to its end.
use Rattle.std.proofs.Common.{◌≡◌, ℕ, ◌+◌, ◌*◌, ◌<◌, ◌≤◌, inl, inr, Bool, true, false, List, [], ◌∷◌, ◌++◌, length, arith, refl, sym, ap, ◌∙◌, subst}
use Rattle.std.specs.List.{AllByRecursion}
use Rattle.rule_store.specs.Verdict.{Verdict}
use Rattle.tcam_device.specs.declared.Action.{Action}
use Rattle.tcam_device.specs.Flight.{writes_in}
use Rattle.commit_writes.specs.Actions.{back_from, up_to_writes}
use Rattle.tcam_device.specs.State.{IsInUse, state_after, on_device}
use Rattle.tcam_device.proofs.Spans.{state_after-append}
use Rattle.tcam_device.proofs.Wider.{state_after-on_device}
use Rattle.commit_writes.proofs.WritesIn.{writes_in-append}
use Rattle.batch_order.specs.Managed.{Managed}
use Rattle.replay.specs.declared.fate.Fate.{Fate}
use Rattle.replay.specs.declared.fate.Fate.TheVariants as fates
use Rattle.replay.specs.declared.fate.Then.TheVariants as thens
use Rattle.replay.specs.declared.Act.TheVariants.{Trial}
use Rattle.replay.specs.Effects.{Setting, Effect, Prints}
use Rattle.replay.specs.Run.{Progress, Commits, Tries, Crashes, Judged, Settles, HasEffects, carried, carried_so_far}
use Rattle.replay.specs.Text.{aborted_line}
use Rattle.replay.specs.Fates.{IsFirst, commit_act, is_taken_back, turn_of}
use Rattle.replay.specs.Running.{Running, IsRun, IsHalfway, setting_of, progress_of}
use Rattle.replay.proofs.course.Course.{Course, Ending, cuts-by_step}
use Rattle.replay.proofs.course.Returning.{IsWithin, back-on_device, ends-both, number-both}
use Rattle.replay.proofs.between.Runs.{commits-with, returns-with, run_returned}
use Rattle.replay.proofs.between.Settled.{judged-plain}
use Rattle.replay.proofs.between.Halfway.{run_begun, run_ended, ended_by, line, line_by, is_back, back-more, back-number, back-parts, begun-holds, begun-is, begun-in_use, begun-size, held_begun, setting-begun, whole-back, whole-forward, whole-in_use, whole_actions}

in-front : {A : Type 0} (P : A → Type 0) (a b : List A) → AllByRecursion P (a ++ b) → AllByRecursion P a
in-front P [] b all = tt
in-front P (x ∷ a) b all = (all.0, in-front P a b all.1)

in-back : {A : Type 0} (P : A → Type 0) (a b : List A) → AllByRecursion P (a ++ b) → AllByRecursion P b
in-back P [] b all = all
in-back P (x ∷ a) b all = in-back P a b all.1

module _ (slots : ℕ) (run : Running) (half : IsHalfway run) (is : IsRun run) (inside : run.manager.slots ≤ slots) where
  -- where the commit began
  abbrev pub began : Progress
  began = progress_of slots (record run { manager = half.begun })

  -- its effects so far
  abbrev pub so_far : List Effect
  so_far = carried_so_far (setting_of run) began half.some.made

  all-writes : writes_in (whole_actions run half) ≡ writes_in half.some.made ++ writes_in half.some.left
  all-writes = writes_in-append half.some.made half.some.left

  pub state-now : on_device slots run.manager.state ≡ state_after began.state (writes_in half.some.made)
  state-now =
      let in_use : AllByRecursion (IsInUse half.begun.slots) (writes_in half.some.made) = in-front (IsInUse half.begun.slots) (writes_in half.some.made) (writes_in half.some.left)
      (subst (AllByRecursion (IsInUse half.begun.slots)) all-writes (whole-in_use run half)) in
      ap (λ (manager : Managed). on_device slots manager.state) half.some.now_is
      ∙ sym (state_after-on_device slots half.begun.state (writes_in half.some.made) (subst (λ size. AllByRecursion (IsInUse size) (writes_in half.some.made)) (sym (begun-is run half is).size) in_use))

  pub left-in_use : AllByRecursion (IsInUse run.manager.slots) (writes_in half.some.left)
  left-in_use =
      subst (λ (manager : Managed). AllByRecursion (IsInUse manager.slots) (writes_in half.some.left)) (sym half.some.now_is)
      (in-back (IsInUse half.begun.slots) (writes_in half.some.made) (writes_in half.some.left) (subst (AllByRecursion (IsInUse half.begun.slots)) all-writes (whole-in_use run half)))

  pub within_begun : half.begun.slots ≤ slots
  within_begun = subst (λ (manager : Managed). manager.slots ≤ slots) half.some.now_is inside

  abbrev begun_setting : Setting
  begun_setting = setting_of (run_begun run half)

  -- what an accepted one does is what is done by its verdict
  judged : (Does : Setting → Progress → List Effect → Progress → Type 0) (effects : List Effect) (progress : Progress) → Does begun_setting began effects progress → Settles Does begun_setting began effects progress
  judged Does effects progress does =
      judged-plain Does begun_setting began effects progress half.plain (subst (λ (verdict : Verdict). Judged Does begun_setting began verdict effects progress) (sym half.accepted) does)

  -- taken back behind so many writes it returns
  module _ (after : ℕ) (more : after < length (begun-holds run half).made) where
    abbrev pub course_back : List Action
    course_back = back_from half.begun.state (up_to_writes after (held_begun run half).actions)

    abbrev back_line : Effect
    back_line = Prints (aborted_line (run.commits + 1) (2 * after))

    pub back-step : HasEffects (setting_of run) began (Trial after) (carried (setting_of run) began course_back ++ back_line ∷ []) (progress_of slots (run_returned (run_begun run half) (writes_in course_back)))
    back-step =
        let progress = progress_of slots (run_returned (run_begun run half) (writes_in course_back)) in
        let begins = begun-is run half is in
        let front = up_to_writes after (held_begun run half).actions in
        let enough : after ≤ length (writes_in (held_begun run half).actions) = let size = begun-size run half in omega arith in
        subst (λ setting. HasEffects setting began (Trial after) (carried setting began course_back ++ back_line ∷ []) progress) (sym (setting-begun run half))
        (judged (Tries after) (carried begun_setting began course_back ++ back_line ∷ []) progress
        (inr (returns-with (run_begun run half) half.holds.0 begins half.holds.1 slots within_begun after (writes_in course_back) more
        (ends-both half.begun.state front) (number-both after half.begun.state (held_begun run half).actions enough) (carried begun_setting began course_back ++ back_line ∷ [])
        (ap (λ actions. carried begun_setting began actions ++ back_line ∷ [])
        (sym (back-on_device slots half.begun.slots after half.begun.state (held_begun run half).actions begins.size (begun-in_use run half)))))))

  -- with all that is left the commit is carried out, where it has no more writes than come before a turn
  module _ (few : IsWithin (turn_of run.fate) (length (begun-holds run half).made)) where
    forward-step : (fate : Fate) (effects : List Effect) (progress : Progress) → IsFirst fate (length (begun-holds run half).made) → is_taken_back fate ≡ false
        → (commits : Commits begun_setting began effects progress) → IsWithin (turn_of fate) (length commits.made) → HasEffects begun_setting began (commit_act fate) effects progress
    forward-step fates.Finishes effects progress first on commits within = judged Commits effects progress commits
    forward-step (fates.Turns after thens.Back) effects progress first on commits within = judged (Tries after) effects progress (inl (commits, within))
    forward-step (fates.Turns after thens.Restart) effects progress first on commits within = judged (Crashes after) effects progress (inl (commits, within))
    forward-step (fates.Turned after thens.Back) effects progress first on commits within = absurd (cc)
    forward-step (fates.Turned after thens.Restart) effects progress first on commits within = absurd first

    step-by : (back : Bool) → is_back run half ≡ back
        → HasEffects (setting_of run) began (commit_act run.fate) (carried (setting_of run) began (whole_actions run half) ++ Prints (line_by run half back) ∷ []) (progress_of slots (ended_by run half back))
    step-by false on =
        let progress = progress_of slots (ended_by run half false) in
        let effects = carried begun_setting began (held_begun run half).actions ++ Prints (line_by run half false) ∷ [] in
        subst (λ setting. HasEffects setting began (commit_act run.fate) (carried setting began (whole_actions run half) ++ Prints (line_by run half false) ∷ []) progress) (sym (setting-begun run half))
        (subst (λ actions. HasEffects begun_setting began (commit_act run.fate) (carried begun_setting began actions ++ Prints (line_by run half false) ∷ []) progress) (sym (whole-forward run half on).0)
        (forward-step run.fate effects progress half.first on (commits-with (run_begun run half) half.holds.0 (begun-is run half is) half.holds.1 slots within_begun effects refl) few))
    step-by true back =
        let parts = back-parts run half back in
        let returned : List Action → Progress = λ actions. progress_of slots (run_returned (run_begun run half) (writes_in actions)) in
        subst (λ fate. HasEffects (setting_of run) began (commit_act fate) (carried (setting_of run) began (whole_actions run half) ++ Prints (line_by run half true) ∷ []) (returned (whole_actions run half))) (sym parts.1)
        (subst (λ n. HasEffects (setting_of run) began (Trial parts.0) (carried (setting_of run) began (whole_actions run half) ++ Prints (aborted_line (run.commits + 1) n) ∷ []) (returned (whole_actions run half))) (sym (back-number run half back))
        (subst (λ actions. HasEffects (setting_of run) began (Trial parts.0) (carried (setting_of run) began actions ++ Prints (aborted_line (run.commits + 1) (2 * parts.0)) ∷ []) (returned actions)) (sym (whole-back run half back))
        (back-step parts.0 (back-more run half back))))

    pub all-step : HasEffects (setting_of run) began (commit_act run.fate) (carried (setting_of run) began (whole_actions run half) ++ Prints (line run half) ∷ []) (progress_of slots (run_ended run half))
    all-step = step-by (is_back run half) refl

    abbrev pub course-half : Course slots began so_far run
    course-half = record {
      made = half.some.made;
      left = half.some.left;
      probes = refl;
      front_is = refl;
      state = state-now;
      told = half.told;
      waiting = half.waiting;
      size = is.size;
      in_use = left-in_use;
      cuts = cuts-by_step (setting_of run) began (commit_act run.fate) (whole_actions run half) (line run half) (progress_of slots (run_ended run half)) all-step;
    }

    setting-ended : (back : Bool) → setting_of (ended_by run half back) ≡ setting_of (run_begun run half)
    setting-ended true = refl
    setting-ended false = refl

    ended-state : (back : Bool) → is_back run half ≡ back → (ended_by run half back).manager.state ≡ state_after half.begun.state (writes_in (whole_actions run half))
    ended-state true back = refl
    ended-state false on = ap (state_after half.begun.state) (sym (whole-forward run half on).1)

    pub ending-half : Ending slots began so_far run course-half (line run half) (run_ended run half)
    ending-half = record {
      step = all-step;
      state = ended-state (is_back run half) refl ∙ ap (state_after half.begun.state) all-writes
          ∙ state_after-append half.begun.state (writes_in half.some.made) (writes_in half.some.left)
          ∙ ap (λ (manager : Managed). state_after manager.state (writes_in half.some.left)) (sym half.some.now_is);
      setting = setting-ended (is_back run half) ∙ sym (setting-begun run half);
    }
