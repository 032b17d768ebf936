-- Failures of the sink, by the status that is answered.
use Rattle.std.proofs.Common.{◌≡◌, ◌⊎◌, inl, inr, ℕ, Bool, true, false, Some, Ok, Err, refl, ap, arith}
use Rattle.std.specs.Prelude.{if◌then◌else◌}
use Rattle.call_history.specs.Cause.{HasCause, IsCounted}
use Rattle.script_runs.specs.declared.Status.{Status}
use Rattle.script_runs.specs.declared.Status.TheVariants as status

-- none is counted
pub not-counted : (A : Type 0) (count : ℕ) → (A → ⊥) → IsCounted A count count
not-counted A count never = record { later = omega arith; once = omega arith; failed = λ a. absurd (never a); stayed = λ _. refl }

-- a status as an answer
pub some-counted : (told fault : Status) (old new : ℕ) → IsCounted (told ≡ fault) old new → IsCounted (Some told ≡ Some fault) old new
some-counted told fault old new is =
    record { later = is.later; once = is.once; failed = λ same. is.failed (cc); stayed = λ other. is.stayed (λ same. other (ap Some same)) }

-- a call that was answered, and one that failed
pub counted-ok : {T E : Type 0} (A : Type 0) (old new : ℕ) (value : T) → HasCause {T = T} {E = E} old new (Ok value) → (A → ⊥) → IsCounted A old new
counted-ok A old new value cause never = record { later = cause.later; once = cause.once; failed = λ a. absurd (never a); stayed = λ _. cause.stayed }

pub counted-err : {T E : Type 0} (A : Type 0) (old new : ℕ) (error : E) → HasCause {T = T} {E = E} old new (Err error) → A → IsCounted A old new
counted-err A old new error cause here = record { later = cause.later; once = cause.once; failed = λ _. cause.failed; stayed = λ never. absurd (never here) }

-- a status that was told, or the sink failed
pub or-memory : (told last : Status) → (told ≡ last) ⊎ (told ≡ status.WriteFault) → (told ≡ last) ⊎ ((told ≡ status.WriteFault) ⊎ (told ≡ status.Memory))
or-memory told last (inl is) = inl is
or-memory told last (inr is) = inr (inl is)

-- by whether a line is at fault
pub told-wrong : (wrong : Bool) (told : Status) → wrong ≡ true → (told ≡ status.Script) ⊎ (told ≡ status.WriteFault)
    → (told ≡ (if wrong then status.Script else status.Done)) ⊎ (told ≡ status.WriteFault)
told-wrong true told by is = is
told-wrong false told by is = let bad : false ≡ true = by in absurd (cc)

pub told-right : (wrong : Bool) (told : Status) → wrong ≡ false → (told ≡ status.Done) ⊎ (told ≡ status.WriteFault)
    → (told ≡ (if wrong then status.Script else status.Done)) ⊎ (told ≡ status.WriteFault)
told-right true told by is = let bad : true ≡ false = by in absurd (cc)
told-right false told by is = is
