-- What is told of a judgement, by what its calls answer.
use Rattle.std.proofs.Common.{◌≡◌, ◌≢◌, ◌⊎◌, ◌++◌, ℕ, inl, inr, Option, List, [], refl, sym, ap, ◌∙◌, subst, arith}
use Rattle.call_history.specs.Cause.{IsCounted}
use Rattle.script_runs.specs.declared.Status.{Status}
use Rattle.script_runs.specs.declared.Status.TheVariants as status
use Rattle.import_lines.specs.Writes.{ClosesBy}
use Rattle.driver_verify.specs.declared.DriverVerdict.{DriverVerdict}
use Rattle.driver_verify.specs.declared.DriverVerdict.TheVariants as verdict
use Rattle.judge_cli.specs.Lines.{told_status, told_text}
use Rattle.judge_cli.specs.Jobs.{TellsBy, TellsLine}

-- the line of an answer that has one
pub tells-line : (told : DriverVerdict) (answer : Status) (o n : Option (List ℕ)) → told ≢ verdict.Read → told ≢ verdict.Memory → TellsLine told answer o n → TellsBy told answer o n
tells-line (verdict.Yes commits writes) answer o n read memory tells = tells
tells-line (verdict.No line version leak) answer o n read memory tells = tells
tells-line (verdict.NotJudged line) answer o n read memory tells = tells
tells-line (verdict.Bad line) answer o n read memory tells = tells
tells-line (verdict.TooLong line) answer o n read memory tells = tells
tells-line (verdict.BadByte line) answer o n read memory tells = tells
tells-line verdict.Read answer o n read memory tells = absurd (read refl)
tells-line verdict.Memory answer o n read memory tells = absurd (memory refl)

-- nothing is told where the source failed
pub tells-read : (told : DriverVerdict) (o : Option (List ℕ)) → told ≡ verdict.Read → TellsBy told status.ReadFault o o
tells-read told o is = subst (λ t. TellsBy t status.ReadFault o o) (sym is) (refl, refl)

-- or memory was wanting
pub tells-memory : (told : DriverVerdict) (o : Option (List ℕ)) → told ≡ verdict.Memory → TellsBy told status.Memory o o
tells-memory told o is = subst (λ t. TellsBy t status.Memory o o) (sym is) (refl, refl)

-- a status is that of a failed source only where it failed
other-status : (told : DriverVerdict) → told ≢ verdict.Read → told_status told ≢ status.ReadFault
other-status (verdict.Yes commits writes) other same = absurd (cc)
other-status (verdict.No line version leak) other same = absurd (cc)
other-status (verdict.NotJudged line) other same = absurd (cc)
other-status (verdict.Bad line) other same = absurd (cc)
other-status (verdict.TooLong line) other same = absurd (cc)
other-status (verdict.BadByte line) other same = absurd (cc)
other-status verdict.Read other same = other refl
other-status verdict.Memory other same = absurd (cc)

pub not-read : (told : DriverVerdict) (answer : Status) → (answer ≡ told_status told) ⊎ ((answer ≡ status.WriteFault) ⊎ (answer ≡ status.Memory)) → told ≢ verdict.Read → answer ≢ status.ReadFault
not-read told answer (inl is) other same = other-status told other (sym is ∙ same)
not-read told answer (inr (inl is)) other same = absurd (let bad : status.WriteFault ≡ status.ReadFault = sym is ∙ same in cc)
not-read told answer (inr (inr is)) other same = absurd (let bad : status.Memory ≡ status.ReadFault = sym is ∙ same in cc)

-- no status that follows a line is that of a failed sink
pub written-status : (told : DriverVerdict) → told_status told ≢ status.WriteFault
written-status (verdict.Yes commits writes) same = absurd (cc)
written-status (verdict.No line version leak) same = absurd (cc)
written-status (verdict.NotJudged line) same = absurd (cc)
written-status (verdict.Bad line) same = absurd (cc)
written-status (verdict.TooLong line) same = absurd (cc)
written-status (verdict.BadByte line) same = absurd (cc)
written-status verdict.Read same = absurd (cc)
written-status verdict.Memory same = absurd (cc)

is-read : (told : DriverVerdict) → (told ≡ verdict.Read) ⊎ (told ≢ verdict.Read)
is-read (verdict.Yes commits writes) = inr (λ same. absurd (cc))
is-read (verdict.No line version leak) = inr (λ same. absurd (cc))
is-read (verdict.NotJudged line) = inr (λ same. absurd (cc))
is-read (verdict.Bad line) = inr (λ same. absurd (cc))
is-read (verdict.TooLong line) = inr (λ same. absurd (cc))
is-read (verdict.BadByte line) = inr (λ same. absurd (cc))
is-read verdict.Read = inl refl
is-read verdict.Memory = inr (λ same. absurd (cc))

-- the failures of the source are counted by the status
pub read-counted : (told : DriverVerdict) (answer : Status) (before now : ℕ) → IsCounted (told ≡ verdict.Read) before now → (told ≡ verdict.Read → answer ≡ status.ReadFault)
    → (told ≢ verdict.Read → answer ≢ status.ReadFault) → IsCounted (answer ≡ status.ReadFault) before now
read-counted told answer before now is there other = record {
  later = is.later;
  once = is.once;
  failed = λ same. elim (is-read told) [ inl read ↦ is.failed read | inr differs ↦ absurd (other differs same) ];
  stayed = λ unread. is.stayed (λ read. unread (there read));
}

-- a text is told, and nothing is read
pub told-unread : (result last : Status) (faults : ℕ) → (result ≡ last) ⊎ (result ≡ status.WriteFault) → last ≢ status.ReadFault → IsCounted (result ≡ status.ReadFault) faults faults
told-unread result last faults (inl is) other =
    record { later = omega arith; once = omega arith; failed = λ same. absurd (other (sym is ∙ same)); stayed = λ _. refl }
told-unread result last faults (inr is) other =
    record { later = omega arith; once = omega arith; failed = λ same. absurd (let bad : status.WriteFault ≡ status.ReadFault = sym is ∙ same in cc); stayed = λ _. refl }

-- the line is written of room that was empty
pub line-told : (told : DriverVerdict) (room : List ℕ) (last answer : Status) (o n : Option (List ℕ)) → room ≡ told_text told → last ≡ told_status told → ClosesBy room last answer o n → TellsLine told answer o n
line-told told room last answer o n text follows closes =
    inl (subst (λ t. ClosesBy t (told_status told) answer o n) text (subst (λ s. ClosesBy room s answer o n) follows closes))

pub room-told : (told : DriverVerdict) (empty room : List ℕ) → empty ≡ [] → room ≡ empty ++ told_text told → room ≡ told_text told
room-told told empty room none put = put ∙ ap (λ l. l ++ told_text told) none

pub status-kind : (told : DriverVerdict) (last answer : Status) → last ≡ told_status told → (answer ≡ last) ⊎ (answer ≡ status.WriteFault) → (answer ≡ told_status told) ⊎ ((answer ≡ status.WriteFault) ⊎ (answer ≡ status.Memory))
status-kind told last answer follows (inl is) = inl (is ∙ follows)
status-kind told last answer follows (inr is) = inr (inl is)
