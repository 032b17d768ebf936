-- A line that is written whole or in part closes a report.
use Rattle.std.proofs.Common.{◌≡◌, ◌≢◌, inl, inr, ap, true, false, ℕ, Option, List, Result, Ok, Err, refl, sym, ◌∙◌, subst}
use Rattle.std.specs.Prelude.{MatchResult}
use Rattle.report_lines.specs.Outside.{WritesLine}
use Rattle.replay.specs.Run.{Progress}
use Rattle.script_runs.specs.Script.{Whole}
use Rattle.script_runs.specs.declared.Status.{Status}
use Rattle.script_runs.specs.declared.Status.TheVariants.{Done, Refused, WriteFault}
use Rattle.tcam_cli.specs.Headline.{status_of}
use Rattle.tcam_cli.specs.Rounds.{ClosesReport}

module _ {S T E : Type 0} (taken : S → Option (List ℕ)) (accepted : S → List ℕ) (faults : S → ℕ) (old new : S) (line : List ℕ) (last : Status) where
  pub closes-whole : (status : Status) (value : T) → status ≡ last → status ≢ WriteFault → WritesLine {T = T} {E = E} taken accepted faults old new line (Ok value)
      → ClosesReport taken accepted faults old new line last status
  closes-whole status value same other writes = record {
    closes = λ which. inl (same, writes.whole which);
    told = writes.told;
    cause = record { later = writes.cause.later; once = writes.cause.once; failed = λ failed. absurd (other failed); stayed = λ _. writes.cause.stayed };
  }

  pub closes-cut : (value : E) → WritesLine {T = T} {E = E} taken accepted faults old new line (Err value) → ClosesReport taken accepted faults old new line last WriteFault
  closes-cut value writes = record {
    closes = λ which. inr (refl, writes.part which);
    told = writes.told;
    cause = record { later = writes.cause.later; once = writes.cause.once; failed = λ _. writes.cause.failed; stayed = λ other. absurd (other refl) };
  }

  -- by the status that follows
  pub closes-by-status : (status : Status) (written : Result T E) → last ≢ WriteFault → WritesLine {T = T} {E = E} taken accepted faults old new line written
      → MatchResult written (λ _. status ≡ last) (λ _. status ≡ WriteFault) → ClosesReport taken accepted faults old new line last status
  closes-by-status status (Ok value) other writes is = closes-whole status value is (λ failed. other (sym is ∙ failed)) writes
  closes-by-status status (Err value) other writes is = subst (λ s. ClosesReport taken accepted faults old new line last s) (sym is) (closes-cut value writes)

-- the status of a run that came to its end
pub ended-refused : (last : Progress) → last.refused ≡ true → Refused ≡ status_of last Whole
ended-refused last is = sym (ap (λ refused. elim refused [ true ↦ Refused | false ↦ Done ]) is)

pub ended-done : (last : Progress) → last.refused ≡ false → Done ≡ status_of last Whole
ended-done last is = sym (ap (λ refused. elim refused [ true ↦ Refused | false ↦ Done ]) is)
