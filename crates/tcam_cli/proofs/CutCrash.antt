-- A commit that crashes does up to then what any commit does.
use Rattle.std.proofs.Common.{◌≡◌, ℕ, zero, suc, ◌+◌, List, [], ◌∷◌, ◌++◌, length, refl, sym, ap, ◌∙◌, subst, append_assoc}
use Rattle.rule_store.specs.Verdict.{Accepted}
use Rattle.tcam_device.specs.declared.Write.{Write}
use Rattle.tcam_device.specs.declared.Action.{Action}
use Rattle.tcam_device.specs.declared.Action.TheVariants.{Written, Drained}
use Rattle.tcam_device.specs.Flight.{writes_in}
use Rattle.tcam_device.specs.State.{state_after}
use Rattle.commit_writes.specs.Actions.{up_to_writes}
use Rattle.replay.specs.declared.Act.{Act}
use Rattle.replay.specs.declared.Act.TheVariants.{Commit}
use Rattle.replay.specs.Effects.{Setting, Effect, Prints, effects_of, flushed, probes_told, waiting_after}
use Rattle.replay.specs.Run.{Progress, Commits, GoesPast, HasEffects, IsCutBeforeCrash, Judged, StopsAtCrash, actions_before, actions_for, after_segment, carried_so_far, pending_verdict, settled_at}
use Rattle.replay.specs.Reports.{done_line}
use Rattle.replay.proofs.lines.Opened.{carried-append}

-- the actions behind so many writes
rest-after : ℕ → List Action → List Action
rest-after zero actions = actions
rest-after (suc more) [] = []
rest-after (suc more) (Written write ∷ actions) = rest-after more actions
rest-after (suc more) (Drained ∷ actions) = rest-after (suc more) actions

front-and-rest : (more : ℕ) (actions : List Action) → up_to_writes more actions ++ rest-after more actions ≡ actions
unfolding rest-after
front-and-rest zero actions = refl
front-and-rest (suc more) [] = refl
front-and-rest (suc more) (Written write ∷ actions) = ap (λ rest. Written write ∷ rest) (front-and-rest more actions)
front-and-rest (suc more) (Drained ∷ actions) = ap (λ rest. Drained ∷ rest) (front-and-rest (suc more) actions)

-- all effects of a commit with these writes begin with those up to the crash
pub record AsCommit (setting : Setting) (before : Progress) (front : List Effect) : Type 0 where
  pub back : List Effect
  pub after : Progress
  pub step : HasEffects setting before Commit (front ++ back) after

pub as-commit : (setting : Setting) (before : Progress) (after : ℕ) (made : List Write) → pending_verdict setting before ≡ Accepted → GoesPast setting (settled_at before) after made
    → AsCommit setting before (carried_so_far setting (settled_at before) (actions_before setting (settled_at before) after made))
as-commit setting before after made accepted crash = record {
  back = behind ++ (end ++ line);
  after = after_segment setting (settled_at before) made;
  step = subst (λ verdict. Judged Commits setting (settled_at before) verdict (front ++ (behind ++ (end ++ line))) (after_segment setting (settled_at before) made)) (sym accepted) (record {
    made = made;
    writes = crash.writes;
    effects_are = sym (append_assoc front behind (end ++ line)) ∙ ap (λ effects. effects ++ (end ++ line)) (sym parts) ∙ sym (append_assoc (carried_so_far setting (settled_at before) actions) end line);
    after = refl;
  });
}
  where
    actions : List Action
    actions = actions_for setting (settled_at before) made

    first : List Action
    first = actions_before setting (settled_at before) after made

    rest : List Action
    rest = rest-after after actions

    front : List Effect
    front = carried_so_far setting (settled_at before) first

    behind : List Effect
    behind = effects_of setting (probes_told setting.json (settled_at before).probes) (0 + length (writes_in first)) (waiting_after setting.depth 0 first) (state_after (settled_at before).state (writes_in first)) rest

    end : List Effect
    end = flushed setting.family (probes_told setting.json (settled_at before).probes) (length (writes_in actions)) (state_after (settled_at before).state (writes_in actions)) (waiting_after setting.depth 0 actions)

    line : List Effect
    line = Prints (done_line setting.json (settled_at before).early ((settled_at before).commits + 1) crash.writes.counts) ∷ []

    parts : carried_so_far setting (settled_at before) actions ≡ front ++ behind
    parts = ap (carried_so_far setting (settled_at before)) (sym (front-and-rest after actions)) ∙ carried-append setting (settled_at before) first rest

-- so one that is cut before its crash is a commit that is cut
pub cut-as_commit : (setting : Setting) (before : Progress) (act : Act) (front : List Effect) (due : Effect) → IsCutBeforeCrash setting before act front due → AsCommit setting before (front ++ due ∷ [])
cut-as_commit setting before act front due cut =
    let whole = as-commit setting before cut.after cut.made cut.accepted cut.crash in record {
      back = cut.back ++ whole.back;
      after = whole.after;
      step = subst (λ effects. HasEffects setting before Commit effects whole.after)
          (ap (λ effects. effects ++ whole.back) cut.parts ∙ append_assoc front (due ∷ cut.back) whole.back ∙ sym (append_assoc front (due ∷ []) (cut.back ++ whole.back)))
          whole.step;
    }

-- and one that finds no memory at its crash has made the first effects of a commit
pub stops-as_commit : (setting : Setting) (before : Progress) (after : ℕ) (front : List Effect) → pending_verdict setting before ≡ Accepted → StopsAtCrash setting (settled_at before) after front → AsCommit setting before front
stops-as_commit setting before after front accepted stops =
    subst (AsCommit setting before) (sym stops.effects_are) (as-commit setting before after stops.made accepted stops.crash)
