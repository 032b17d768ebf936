-- What a commit in two parts writes: to packets it is one commit.
use Rattle.std.proofs.Common.{◌≡◌, inl, inr, ℕ, min, List, [], ◌++◌, length, take, sym, ap, ap₂, ◌∙◌, subst}
use Rattle.std.proofs.Math.Nat.{min-le_right}
use Rattle.std.proofs.lemmas.List.{take_min, take-append-le}
use Rattle.rule_model.specs.declared.Rule.{Rule}
use Rattle.rule_store.specs.declared.Command.{Command as Change}
use Rattle.rule_store.specs.Batch.{set_after}
use Rattle.rule_store.specs.Verdict.{Accepted, verdict}
use Rattle.tcam_device.specs.declared.Write.{Write}
use Rattle.tcam_device.specs.State.{State, state_after}
use Rattle.tcam_device.specs.Hitless.{IsHitless, ShowsOldOrNew}
use Rattle.tcam_device.proofs.Spans.{state_after-append}
use Rattle.settled_changes.specs.declared.requested.Requested.TheVariants.{Nothing}
use Rattle.settled_changes.specs.Requested.{settled_batch}
use Rattle.removals_first.specs.Early.{IsBetween}
use Rattle.replay.specs.declared.Act.TheVariants.{Commit}
use Rattle.replay.specs.Effects.{Setting, Effect, journal_of}
use Rattle.replay.specs.Run.{Progress, Commits, HasEffects, Judged, after_segment}
use Rattle.replay.specs.Early.{IsPartedAt, at_first, at_rest, first_part, rest_part}
use Rattle.replay.proofs.parting.Rest.{between, one-commit, taken}
use Rattle.replay.proofs.lines.Effects.{written-append}
use Rattle.replay.proofs.lines.Written.{written-segment}
use Rattle.tcam_cli.specs.InTwo.{StepsInTwo}

-- some first writes leave what some first of all leave
pub first-during : (state : State) (old new : List Rule) (front behind made : List Write) → made ≡ front ++ behind → ((n : ℕ) → ShowsOldOrNew (state_after state (take n made)) old new)
    → (n : ℕ) → ShowsOldOrNew (state_after state (take n front)) old new
first-during state old new front behind made same during n =
    let few = min n (length front) in
    subst (λ writes. ShowsOldOrNew (state_after state writes) old new)
    (ap (take few) same ∙ take-append-le few front behind (min-le_right n (length front)) ∙ take_min n front) (during few)

-- the new set
abbrev pub whole_set : Progress → List Rule
whole_set old = set_after old.rules (settled_batch old.rules old.batch old.asked)

-- both parts are made: these writes, hitless from the old set to the new one, and the run stands there
pub record MakesBoth (old : Progress) (effects : List Effect) (new : Progress) : Type 0 where
  pub made : List Write
  pub written : journal_of effects ≡ made
  pub hitless : IsHitless old.rules (whole_set old) old.state made
  pub at : Progress
  pub after : new ≡ record at { rules = whole_set old; batch = []; asked = Nothing; state = state_after old.state made; refused = old.refused }

module _ (setting : Setting) (old : Progress) (right : IsPartedAt setting old) where
  abbrev first : List Change
  first = first_part old.rules old.batch old.asked

  abbrev rest : List Change
  rest = rest_part old.rules old.batch old.asked

  abbrev middle : List Rule
  middle = set_after old.rules first

  law : (verdict setting.slots setting.mode old.rules first ≡ Accepted) × (verdict setting.slots setting.mode middle rest ≡ Accepted) × (set_after middle rest ≡ whole_set old)
  law = taken setting.slots setting.mode old.rules old.batch old.asked right.1

  is-between : IsBetween old.rules middle (whole_set old)
  is-between = between setting.slots setting.mode old.rules old.batch old.asked right.1

  -- the first part is accepted
  pub first-commits : (effects : List Effect) (mid : Progress) → HasEffects setting (at_first old) Commit effects mid → Commits setting (at_first old) effects mid
  first-commits effects mid step = subst (λ judged. Judged Commits setting (at_first old) judged effects mid) law.0 step

  to-new : (state : State) → ShowsOldOrNew state old.rules middle → ShowsOldOrNew state old.rules (whole_set old)
  to-new state shows key valid = elim (shows key valid) [
    | inl is_old ↦ inl is_old
    | inr is_middle ↦ elim (is-between key valid) [ inl same ↦ inl (is_middle ∙ same) | inr same ↦ inr (is_middle ∙ same) ]
  ]

  -- while it is made each key has the old or the new answer
  pub first-shows : (effects : List Effect) (mid : Progress) → HasEffects setting (at_first old) Commit effects mid
      → (n : ℕ) → ShowsOldOrNew (state_after old.state (take n (journal_of effects))) old.rules (whole_set old)
  first-shows effects mid step n =
      let commits = first-commits effects mid step in
      let written : journal_of effects ≡ commits.made = ap journal_of commits.effects_are ∙ written-segment setting (at_first old) commits.made _ in
      to-new (state_after old.state (take n (journal_of effects)))
      (subst (λ writes. ShowsOldOrNew (state_after old.state (take n writes)) old.rules middle) (sym written) (commits.writes.segment.hitless.on_the_way.during n))

  pub front-shows : (front behind : List Effect) (mid : Progress) → HasEffects setting (at_first old) Commit (front ++ behind) mid
      → (n : ℕ) → ShowsOldOrNew (state_after old.state (take n (journal_of front))) old.rules (whole_set old)
  front-shows front behind mid step =
      first-during old.state old.rules (whole_set old) (journal_of front) (journal_of behind) (journal_of (front ++ behind)) (written-append front behind) (first-shows (front ++ behind) mid step)

  -- where the run stands between the parts, and behind them
  abbrev pub between_at : List Write → Progress
  between_at made = after_segment setting (at_first old) made

  abbrev pub behind_at : List Write → List Write → Progress
  behind_at made later = after_segment setting (at_rest old (between_at made)) later

  -- both parts are accepted
  pub record BothCommit (effects : List Effect) (new : Progress) : Type 0 where
    pub front : List Effect
    pub back : List Effect
    pub effects_are : effects ≡ front ++ back
    pub mid : Progress
    pub one : Commits setting (at_first old) front mid
    pub other : Commits setting (at_rest old (between_at one.made)) back new

  pub both-commit : (effects : List Effect) (new : Progress) → StepsInTwo setting old effects new → BothCommit effects new
  both-commit effects new two =
      let one = first-commits two.first two.middle two.early in
      let step : HasEffects setting (at_rest old (between_at one.made)) Commit two.second new = subst (λ (mid : Progress). HasEffects setting (at_rest old mid) Commit two.second new) one.after two.rest in
      record {
        front = two.first;
        back = two.second;
        effects_are = two.effects_are;
        mid = two.middle;
        one = one;
        other = subst (λ judged. Judged Commits setting (at_rest old (between_at one.made)) judged two.second new) law.1 step;
      }

  pub accepted-first : verdict setting.slots setting.mode old.rules first ≡ Accepted
  accepted-first = law.0

  pub accepted-rest : verdict setting.slots setting.mode middle rest ≡ Accepted
  accepted-rest = law.1

  pub leads-whole : set_after middle rest ≡ whole_set old
  leads-whole = law.2

  pub makes-both : (effects : List Effect) (new : Progress) → StepsInTwo setting old effects new → MakesBoth old effects new
  makes-both effects new two =
      let both = both-commit effects new two in
      let one = both.one in
      let other = both.other in
      let last : Progress = behind_at one.made other.made in
      record {
        made = one.made ++ other.made;
        written =
            ap journal_of both.effects_are ∙ written-append both.front both.back
            ∙ ap₂ (λ front back. front ++ back) (ap journal_of one.effects_are ∙ written-segment setting (at_first old) one.made _)
            (ap journal_of other.effects_are ∙ written-segment setting (at_rest old (between_at one.made)) other.made _);
        hitless = one-commit setting.slots setting.mode old.rules old.batch old.asked old.state one.made other.made right.1 one.writes.segment.hitless
            (subst (λ (set : List Rule). IsHitless middle set (state_after old.state one.made) other.made) law.2 other.writes.segment.hitless);
        at = last;
        after =
            other.after ∙ ap (λ (set : List Rule). record last { rules = set }) law.2
            ∙ ap (λ (state : State). record last { rules = whole_set old; state = state }) (sym (state_after-append old.state one.made other.made));
      }
