-- What is left of the commit that a run holds, whichever manager it has.
use Rattle.std.proofs.Common.{◌≡◌, ℕ, ◌≤◌, inl, inr, List, None, IsSome, sym, ◌∙◌, subst, arith}
use Rattle.replay.specs.Effects.{Effect}
use Rattle.replay.specs.Run.{Progress}
use Rattle.replay.specs.Running.{Running, IsRun, IsMidCommit}
use Rattle.replay.specs.Unfinished.{IsUnfinished}
use Rattle.replay.proofs.making.Acting.{some-held}
use Rattle.replay.proofs.course.Rest.{HasNoTurn, Rest, as-halfway, rest-half}
use Rattle.replay.proofs.crash.RestOnward.{as-onward, rest-onward}

-- of one whose effects are known
pub rest-of : (slots : ℕ) (before : Progress) (front : List Effect) (run : Running) → IsUnfinished slots before front run → IsRun run → run.manager.slots ≤ slots → HasNoTurn run → Rest slots before front run
rest-of slots before front run (inl stands) is inside none = as-halfway slots before front run stands is inside none
rest-of slots before front run (inr stands) is inside none = as-onward slots before front run stands is inside

-- or of one that is held
pub record AnyRest (run : Running) : Type 1 where
  pub slots : ℕ
  pub inside : run.manager.slots ≤ slots
  pub before : Progress
  pub front : List Effect
  pub rest : Rest slots before front run

any-rest : (run : Running) → IsRun run → IsSome run.manager.held → HasNoTurn run → AnyRest run
any-rest run is held none = go (is.halfway held)
  where
    go : IsMidCommit run → AnyRest run
    go (inl half) =
        let inside : run.manager.slots ≤ run.manager.slots = omega arith in
        record { slots = run.manager.slots; inside = inside; before = _; front = _; rest = rest-half run.manager.slots run half is inside none }
    go (inr (slots, inside, onward)) = record { slots = slots; inside = inside; before = _; front = _; rest = rest-onward slots run onward is inside }

-- by what is asked of the run that is at hand
pub any-now : (inside now : Running) → inside ≡ now → IsRun inside → IsSome now.manager.held → HasNoTurn now → AnyRest inside
any-now inside now same is held none = any-rest inside is (subst (λ (run : Running). IsSome run.manager.held) (sym same) held) (subst HasNoTurn (sym same) none)

-- a commit that is unfinished is under way
pub never-idle : (slots : ℕ) (before : Progress) (front : List Effect) (run : Running) → IsUnfinished slots before front run → run.manager.held ≡ None → ⊥
never-idle slots before front run (inl stands) none =
    absurd (let both = sym (some-held _ run.manager stands.halfway.some) ∙ none in cc)
never-idle slots before front run (inr stands) none =
    absurd (let both = sym (some-held _ run.manager stands.onward.some) ∙ none in cc)
