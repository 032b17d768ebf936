-- Where an act is cut: within all that it does, before its crash, or in the first of two parts.
use Rattle.std.proofs.Common.{◌≡◌, inl, inr, Bool, true, false, ◌⊎◌, ◌&&◌, List, ◌∷◌, ◌++◌, refl, sym, ap, ◌∙◌, subst, append_assoc}
use Rattle.replay.specs.declared.Act.{Act}
use Rattle.replay.specs.declared.Act.TheVariants.{Command, Ask, All, Probe, Packet, Commit, Trial, Crash}
use Rattle.replay.specs.Effects.{Setting, Effect}
use Rattle.replay.specs.Run.{Progress, HasEffects, IsCutBeforeCrash, IsCutStep}
use Rattle.replay.specs.Early.{IsPartedAt, at_first, at_rest, goes_in_two, parts_at}
use Rattle.tcam_cli.specs.InTwo.{ComesInRest, CommitIsCut, CommitsBy, IsCutBy, StepsBy, StepsInTwo}

-- an act that is cut within all that it does,
pub record CutsWithin (setting : Setting) (before : Progress) (act : Act) (front : List Effect) (due : Effect) : Type 0 where
  pub back : List Effect
  pub after : Progress
  pub step : StepsBy setting before act (front ++ due ∷ back) after

-- or in the first of its two parts, where the second isn't planned yet
pub record CutsInFirst (setting : Setting) (before : Progress) (act : Act) (front : List Effect) (due : Effect) : Type 0 where
  pub act_is : act ≡ Commit
  pub right : IsPartedAt setting before
  pub back : List Effect
  pub after : Progress
  pub step : HasEffects setting (at_first before) Commit (front ++ due ∷ back) after

abbrev pub CutsSomewhere : Setting → Progress → Act → List Effect → Effect → Type 0
CutsSomewhere setting before act front due =
    CutsWithin setting before act front due ⊎ (IsCutBeforeCrash setting before act front due ⊎ CutsInFirst setting before act front due)

-- an act in one part
one : (setting : Setting) (before : Progress) (act : Act) (front : List Effect) (due : Effect) → ((effects : List Effect) (after : Progress) → HasEffects setting before act effects after → StepsBy setting before act effects after)
    → IsCutStep setting before act front due → CutsSomewhere setting before act front due
one setting before act front due steps (inl cut) = inl (record { back = cut.back; after = cut.after; step = steps (front ++ due ∷ cut.back) cut.after cut.step })
one setting before act front due steps (inr crash) = inr (inl crash)

no-crash : (setting : Setting) (before : Progress) (front : List Effect) (due : Effect) → IsCutBeforeCrash setting before Commit front due → ⊥
no-crash setting before front due crash = let bad : Commit ≡ Crash crash.after = crash.act_is in cc

-- a commit in two parts is cut in its second one
in-rest : (setting : Setting) (before : Progress) (front : List Effect) (due : Effect) → parts_at setting before ≡ true
    → (rest : ComesInRest setting before front (λ middle more. IsCutStep setting middle Commit more due)) → IsCutStep setting (at_rest before rest.middle) Commit rest.front due → CutsSomewhere setting before Commit front due
in-rest setting before front due is rest (inl cut) =
    let two : StepsInTwo setting before (front ++ due ∷ cut.back) cut.after = record {
      right = rest.right;
      middle = rest.middle;
      first = rest.first;
      second = rest.front ++ due ∷ cut.back;
      early = rest.early;
      rest = cut.step;
      effects_are = ap (λ (some : List Effect). some ++ due ∷ cut.back) rest.effects_are ∙ append_assoc rest.first rest.front (due ∷ cut.back);
    } in
    inl (record { back = cut.back; after = cut.after; step = subst (λ in_two. CommitsBy in_two setting before (front ++ due ∷ cut.back) cut.after) (sym is) two })
in-rest setting before front due is rest (inr crash) = absurd (no-crash setting (at_rest before rest.middle) rest.front due crash)

commit-cut : (setting : Setting) (before : Progress) (front : List Effect) (due : Effect) (in_two : Bool) → parts_at setting before ≡ in_two → CommitIsCut in_two setting before front due → CutsSomewhere setting before Commit front due
commit-cut setting before front due false is cut =
    one setting before Commit front due (λ effects after step. subst (λ in_two. CommitsBy in_two setting before effects after) (sym is) step) cut
commit-cut setting before front due true is (inl (right, inl cut)) = inr (inr (record { act_is = refl; right = right; back = cut.back; after = cut.after; step = cut.step }))
commit-cut setting before front due true is (inl (right, inr crash)) = absurd (no-crash setting (at_first before) front due crash)
commit-cut setting before front due true is (inr rest) = in-rest setting before front due is rest rest.rest

pub cut-somewhere : (setting : Setting) (before : Progress) (act : Act) (front : List Effect) (due : Effect) → IsCutBy setting before act front due → CutsSomewhere setting before act front due
cut-somewhere setting before (Command change) front due cut = one setting before (Command change) front due (λ effects after step. step) cut
cut-somewhere setting before (Ask request) front due cut = one setting before (Ask request) front due (λ effects after step. step) cut
cut-somewhere setting before All front due cut = one setting before All front due (λ effects after step. step) cut
cut-somewhere setting before (Probe key) front due cut = one setting before (Probe key) front due (λ effects after step. step) cut
cut-somewhere setting before (Packet key) front due cut = one setting before (Packet key) front due (λ effects after step. step) cut
cut-somewhere setting before Commit front due cut = commit-cut setting before front due (parts_at setting before) refl cut
cut-somewhere setting before (Trial most) front due cut = one setting before (Trial most) front due (λ effects after step. step) cut
cut-somewhere setting before (Crash after) front due cut = one setting before (Crash after) front due (λ effects after step. step) cut

-- where no commit is made in two parts an act does what it does alone
pub alone : (setting : Setting) (before : Progress) (act : Act) (effects : List Effect) (after : Progress) → setting.parts ≡ false → StepsBy setting before act effects after → HasEffects setting before act effects after
alone setting before (Command change) effects after none step = step
alone setting before (Ask request) effects after none step = step
alone setting before All effects after none step = step
alone setting before (Probe key) effects after none step = step
alone setting before (Packet key) effects after none step = step
alone setting before Commit effects after none step =
    subst (λ in_two. CommitsBy in_two setting before effects after) (ap (λ parts. parts && goes_in_two setting.slots setting.mode before.rules before.batch before.asked) none) step
alone setting before (Trial most) effects after none step = step
alone setting before (Crash limit) effects after none step = step
