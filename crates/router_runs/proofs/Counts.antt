-- Counts of failures, by the status that a round answers.
use Rattle.std.proofs.Common.{◌≡◌, ℕ, Some, refl, ap, subst, arith}
use Rattle.call_history.specs.Cause.{IsCounted}
use Rattle.script_runs.specs.declared.Status.{Status}

-- none is counted
pub not-counted : (A : Type 0) (count : ℕ) → (A → ⊥) → IsCounted A count count
not-counted A count never = record { later = omega arith; once = omega arith; failed = λ a. absurd (never a); stayed = λ _. refl }

-- another failure that comes exactly where that one does
pub counted-as : (A B : Type 0) (old new : ℕ) → (B → A) → (A → B) → IsCounted A old new → IsCounted B old new
counted-as A B old new back to is =
    record { later = is.later; once = is.once; failed = λ b. is.failed (back b); stayed = λ other. is.stayed (λ a. other (to a)) }

-- the same as an answer
pub some-counted : (status fault : Status) (old new : ℕ) → IsCounted (status ≡ fault) old new → IsCounted (Some status ≡ Some fault) old new
some-counted status fault old new is = counted-as (status ≡ fault) (Some status ≡ Some fault) old new (λ e. cc) (λ e. ap Some e) is

-- a call that didn't fail so, and then another
pub counted-then : (old mid new : ℕ) (A B : Type 0) → (A → ⊥) → IsCounted A old mid → IsCounted B mid new → IsCounted B old new
counted-then old mid new A B never was is = subst (λ (count : ℕ). IsCounted B count new) (was.stayed never) is

-- an answer is one
pub some-same : (one other : Status) → Some one ≡ Some other → one ≡ other
some-same one other same = cc
