-- After each write of a commit that crashed every key has the old or the new answer.
use Rattle.std.proofs.Common.{◌≡◌, ℕ, zero, suc, ◌+◌, ◌-◌, ◌<◌, ◌≤◌, List, [], ◌∷◌, ◌++◌, length, take, inl, inr, refl, sym, ◌∙◌, subst, ap, arith}
use Rattle.std.proofs.lemmas.Bool.{cases_lt}
use Rattle.std.proofs.lemmas.List.{take-append-le, length-take-le}
use Rattle.std.proofs.Math.Seq.{take-append-add}
use Rattle.rule_model.specs.declared.Rule.{Rule}
use Rattle.rule_store.specs.Batch.{set_after}
use Rattle.tcam_device.specs.declared.Write.{Write}
use Rattle.tcam_device.specs.State.{State, Shows, state_after}
use Rattle.tcam_device.specs.Hitless.{ShowsOldOrNew}
use Rattle.tcam_device.proofs.Spans.{state_after-append}
use Rattle.replay.specs.Effects.{Setting, Effect, journal_of}
use Rattle.replay.specs.Run.{Progress, Restarts}
use Rattle.replay.specs.Crash.{CrashedPartsAreOldOrNew, IsOldOrNew}
use Rattle.replay.specs.Text.{restarted_line}
use Rattle.replay.proofs.lines.Written.{written-crash}

-- the first of the first are the first
first_of : {X : Type 0} (n m : ℕ) (xs : List X) → n ≤ m → take n (take m xs) ≡ take n xs
first_of zero m xs short = refl
first_of (suc n) zero xs short = absurd (omega arith)
first_of (suc n) (suc m) [] short = refl
first_of (suc n) (suc m) (x ∷ xs) short = ap (λ rest. x ∷ rest) (first_of n m xs (omega arith))

-- what holds after each of some writes and of others behind them holds after each of all
pub joined : (old later : List Rule) (state : State) (made rest : List Write) (after : ℕ) → after < length made
    → ((n : ℕ) → ShowsOldOrNew (state_after state (take n made)) old later)
    → ((n : ℕ) → ShowsOldOrNew (state_after (state_after state (take after made)) (take n rest)) old later)
    → (n : ℕ) → ShowsOldOrNew (state_after state (take n (take after made ++ rest))) old later
joined old later state made rest after more first second n = elim (cases_lt n after) [
  | inl short ↦ subst (λ (writes : List Write). ShowsOldOrNew (state_after state writes) old later)
      (sym (take-append-le n (take after made) rest (let l = size in omega arith) ∙ first_of n after made (omega arith))) (first n)
  | inr long ↦ subst (λ (now : State). ShowsOldOrNew now old later) (sym (behind long)) (second (n - after))
]
  where
    size : length (take after made) ≡ after
    size = length-take-le after made (omega arith)

    behind : after ≤ n → state_after state (take n (take after made ++ rest)) ≡ state_after (state_after state (take after made)) (take (n - after) rest)
    behind long =
        ap (λ m. state_after state (take m (take after made ++ rest))) (let l = size in let e : n ≡ length (take after made) + (n - after) = omega arith in e)
        ∙ (ap (state_after state) (take-append-add (take after made) rest (n - after)) ∙ state_after-append state (take after made) (take (n - after) rest))

-- what such a commit wrote
pub written-restarts : (setting : Setting) (old new : Progress) (after : ℕ) (effects : List Effect) (restarts : Restarts setting old after effects new)
    → journal_of effects ≡ take after restarts.made ++ restarts.rest
written-restarts setting old new after effects restarts =
    ap journal_of restarts.effects_are
    ∙ written-crash setting old after restarts.made restarts.rest (restarted_line (old.commits + 1) after (after + length restarts.rest))

pub parts_are : CrashedPartsAreOldOrNew
parts_are setting old new after effects restarts =
    subst (IsOldOrNew old.rules (set_after old.rules old.batch) old.state) (sym (written-restarts setting old new after effects restarts)) (record {
      during = joined old.rules (set_after old.rules old.batch) old.state restarts.made restarts.rest after restarts.crash.more restarts.crash.writes.segment.hitless.on_the_way.during restarts.goes_on.during;
      after = subst (λ (now : State). Shows now (set_after old.rules old.batch)) (sym (state_after-append old.state (take after restarts.made) restarts.rest)) restarts.goes_on.after;
    })
