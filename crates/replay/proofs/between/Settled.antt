-- Where a commit of what is pending stands once it is settled, and what it does by that.
use Rattle.std.proofs.Common.{◌≡◌, inl, inr, ℕ, List, [], ◌∷◌, ◌++◌, refl, sym, ap, ◌∙◌, subst}
use Rattle.rule_store.specs.Batch.{IsSound}
use Rattle.rule_store.specs.Verdict.{Accepted, verdict}
use Rattle.tcam_device.specs.declared.Write.{Write}
use Rattle.settled_changes.specs.declared.requested.Requested.{Requested}
use Rattle.settled_changes.specs.declared.requested.Requested.TheVariants.{Nothing, Changes, Whole}
use Rattle.replay.specs.declared.Act.TheVariants as acts
use Rattle.replay.specs.declared.fate.Fate.{Fate}
use Rattle.replay.specs.declared.fate.Fate.TheVariants as fates
use Rattle.replay.specs.declared.fate.Then.TheVariants as thens
use Rattle.settled_changes.specs.Requested.{IsAsked, TakesAsked, settled_batch, settled_verdict}
use Rattle.settled_changes.proofs.AskedFor.{verdict-taken}
use Rattle.replay.specs.Effects.{Setting, Effect}
use Rattle.replay.specs.Fates.{commit_act}
use Rattle.replay.specs.Run.{Commits, Crashes, GoesPast, HasEffects, IsCutBeforeCrash, IsCutStep, Judged, MayWant, Progress, Settles, StopsAtCrash, TakesMemory, Tries, actions_before, carried_so_far, pending_verdict, settled_at}

-- ---- strict commands are their own batch

pub settled-plain : (old : Progress) → old.asked ≡ Nothing → settled_at old ≡ old
settled-plain old none =
    ap (λ (asked : Requested). record old { batch = settled_batch old.rules old.batch asked; asked = Nothing }) none
    ∙ ap (λ (asked : Requested). record old { asked = asked }) (sym none)

pub verdict-plain : (setting : Setting) (old : Progress) → old.asked ≡ Nothing → pending_verdict setting old ≡ verdict setting.slots setting.mode old.rules old.batch
verdict-plain setting old none = ap (settled_verdict setting.slots setting.mode old.rules old.batch) none

-- a commit of them is judged as it is
pub judged-plain : (Does : Setting → Progress → List Effect → Progress → Type 0) (setting : Setting) (old : Progress) (effects : List Effect) (new : Progress) → old.asked ≡ Nothing
    → Judged Does setting old (verdict setting.slots setting.mode old.rules old.batch) effects new → Settles Does setting old effects new
judged-plain Does setting old effects new none judged =
    subst (λ (at : Progress). Judged Does setting at (pending_verdict setting old) effects new) (sym (settled-plain old none))
    (subst (λ reason. Judged Does setting old reason effects new) (sym (verdict-plain setting old none)) judged)

-- and cut before its crash as it is
pub cut-plain : (setting : Setting) (before : Progress) (after : ℕ) (effects : List Effect) (due : Effect) → before.asked ≡ Nothing
    → verdict setting.slots setting.mode before.rules before.batch ≡ Accepted → (made : List Write) → GoesPast setting before after made → (back : List Effect)
    → carried_so_far setting before (actions_before setting before after made) ≡ effects ++ due ∷ back → IsCutBeforeCrash setting before (acts.Crash after) effects due
cut-plain setting before after effects due none accepted made crash back parts = record {
  after = after;
  act_is = refl;
  accepted = verdict-plain setting before none ∙ accepted;
  made = made;
  crash = subst (λ (at : Progress). GoesPast setting at after made) (sym (settled-plain before none)) crash;
  back = back;
  parts = subst (λ (at : Progress). carried_so_far setting at (actions_before setting at after made) ≡ effects ++ due ∷ back) (sym (settled-plain before none)) parts;
}

-- and takes memory at its crash as it does
pub stops-plain : (setting : Setting) (before : Progress) (after : ℕ) (effects : List Effect) → before.asked ≡ Nothing
    → verdict setting.slots setting.mode before.rules before.batch ≡ Accepted → StopsAtCrash setting before after effects → TakesMemory setting before (acts.Crash after) effects
stops-plain setting before after effects none accepted stops =
    inr (verdict-plain setting before none ∙ accepted, subst (λ (at : Progress). StopsAtCrash setting at after effects) (sym (settled-plain before none)) stops)

-- ---- what is asked for is its settled batch, where the set takes it

-- the verdict on it is that on the batch
pub verdict-settled : (setting : Setting) (old : Progress) → TakesAsked old.rules old.asked → IsSound old.rules (settled_batch old.rules old.batch old.asked)
    → pending_verdict setting old ≡ pending_verdict setting (settled_at old)
verdict-settled setting old taken sound = verdict-taken setting.slots setting.mode old.rules old.batch old.asked taken sound

pub may-settle : (setting : Setting) (old : Progress) (asked : Requested) → IsAsked asked → MayWant setting old asked
may-settle setting old Nothing is = absurd is
may-settle setting old (Changes requests) is = tt
may-settle setting old (Whole requests) is = tt

-- a commit that takes memory before it does anything
pub wants-first : (setting : Setting) (before : Progress) (fate : Fate) → MayWant setting before before.asked → TakesMemory setting before (commit_act fate) []
wants-first setting before fates.Finishes may = (may, refl)
wants-first setting before (fates.Turns after thens.Back) may = (may, refl)
wants-first setting before (fates.Turns after thens.Restart) may = inl (may, refl)
wants-first setting before (fates.Turned after thens.Back) may = (may, refl)
wants-first setting before (fates.Turned after thens.Restart) may = inl (may, refl)

module _ (setting : Setting) (old : Progress) (same : pending_verdict setting old ≡ pending_verdict setting (settled_at old)) where
  -- what a commit of the batch does a commit of what is pending does
  judged-settled : (Does : Setting → Progress → List Effect → Progress → Type 0) (effects : List Effect) (new : Progress) → Settles Does setting (settled_at old) effects new → Settles Does setting old effects new
  judged-settled Does effects new judged = subst (λ reason. Judged Does setting (settled_at old) reason effects new) (sym same) judged

  pub step-settled : (fate : Fate) (effects : List Effect) (new : Progress) → HasEffects setting (settled_at old) (commit_act fate) effects new → HasEffects setting old (commit_act fate) effects new
  step-settled fates.Finishes effects new step = judged-settled Commits effects new step
  step-settled (fates.Turns after thens.Back) effects new step = judged-settled (Tries after) effects new step
  step-settled (fates.Turns after thens.Restart) effects new step = judged-settled (Crashes after) effects new step
  step-settled (fates.Turned after thens.Back) effects new step = judged-settled (Tries after) effects new step
  step-settled (fates.Turned after thens.Restart) effects new step = judged-settled (Crashes after) effects new step

  -- and where it is cut
  pub cut-settled : (fate : Fate) (effects : List Effect) (due : Effect) → IsCutStep setting (settled_at old) (commit_act fate) effects due → IsCutStep setting old (commit_act fate) effects due
  cut-settled fate effects due (inl cut) = inl (record { back = cut.back; after = cut.after; step = step-settled fate (effects ++ due ∷ cut.back) cut.after cut.step })
  cut-settled fate effects due (inr cut) = inr (record {
    after = cut.after;
    act_is = cut.act_is;
    accepted = same ∙ cut.accepted;
    made = cut.made;
    crash = cut.crash;
    back = cut.back;
    parts = cut.parts;
  })

  -- and where it wants memory
  pub wants-settled : (fate : Fate) (effects : List Effect) → IsAsked old.asked → TakesMemory setting (settled_at old) (commit_act fate) effects → TakesMemory setting old (commit_act fate) effects
  wants-settled fates.Finishes effects is takes = (may-settle setting old old.asked is, takes.1)
  wants-settled (fates.Turns after thens.Back) effects is takes = (may-settle setting old old.asked is, takes.1)
  wants-settled (fates.Turns after thens.Restart) effects is (inl takes) = inl (may-settle setting old old.asked is, takes.1)
  wants-settled (fates.Turns after thens.Restart) effects is (inr stops) = inr (same ∙ stops.0, stops.1)
  wants-settled (fates.Turned after thens.Back) effects is takes = (may-settle setting old old.asked is, takes.1)
  wants-settled (fates.Turned after thens.Restart) effects is (inl takes) = inl (may-settle setting old old.asked is, takes.1)
  wants-settled (fates.Turned after thens.Restart) effects is (inr stops) = inr (same ∙ stops.0, stops.1)
