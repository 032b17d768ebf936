use Rattle.std.proofs.Common.{refl, inl, inr}
use Rattle.import_lines.proofs.importing.write_last.Goals as goal

pub returns-in-Ok-clause-closes : goal.returns-in-Ok-clause-closes
returns-in-Ok-clause-closes g c = λ which. inl (refl, c.in-Ok.ensures.whole which)

pub returns-in-Err-clause-closes : goal.returns-in-Err-clause-closes
returns-in-Err-clause-closes g c = λ which. inr (refl, c.in-Err.ensures.part which)

pub returns-in-Ok-clause-written : goal.returns-in-Ok-clause-written
returns-in-Ok-clause-written g c = λ other.
    let kept = c.in-Ok.ensures.cause in
    record { later = kept.later; once = kept.once; failed = λ same. absurd (other same); stayed = λ _. kept.stayed }

pub returns-in-Err-clause-written : goal.returns-in-Err-clause-written
returns-in-Err-clause-written g c = λ other.
    let failed = c.in-Err.ensures.cause in
    record { later = failed.later; once = failed.once; failed = λ _. failed.failed; stayed = λ no. absurd (no refl) }
