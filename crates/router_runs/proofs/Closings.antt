-- A line that is written whole or in part closes a report.
use Rattle.std.proofs.Common.{◌≡◌, ◌≢◌, inl, inr, ℕ, Option, List, Ok, Err, refl}
use Rattle.report_lines.specs.Outside.{WritesLine}
use Rattle.script_runs.specs.declared.Status.{Status}
use Rattle.script_runs.specs.declared.Status.TheVariants.{WriteFault}
use Rattle.router_runs.specs.Rounds.{ClosesRouterReport}

module _ {S T E : Type 0} (taken : S → Option (List ℕ)) (accepted : S → List ℕ) (faults : S → ℕ) (old new : S) (line : List ℕ) (last : Status) where
  pub closes-whole : (status : Status) (value : T) → status ≡ last → status ≢ WriteFault → WritesLine {T = T} {E = E} taken accepted faults old new line (Ok value)
      → ClosesRouterReport taken accepted faults old new line last status
  closes-whole status value same other writes = record {
    closes = λ which. inl (same, writes.whole which);
    told = writes.told;
    cause = record { later = writes.cause.later; once = writes.cause.once; failed = λ failed. absurd (other failed); stayed = λ _. writes.cause.stayed };
  }

  pub closes-cut : (value : E) → WritesLine {T = T} {E = E} taken accepted faults old new line (Err value) → ClosesRouterReport taken accepted faults old new line last WriteFault
  closes-cut value writes = record {
    closes = λ which. inr (refl, writes.part which);
    told = writes.told;
    cause = record { later = writes.cause.later; once = writes.cause.once; failed = λ _. writes.cause.failed; stayed = λ other. absurd (other refl) };
  }
