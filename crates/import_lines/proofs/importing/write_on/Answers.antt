use Rattle.std.proofs.Common.{refl}
use Rattle.import_lines.proofs.importing.write_on.Goals as goal

pub returns-in-Ok-clause-passes : goal.returns-in-Ok-clause-passes
returns-in-Ok-clause-passes g c = λ which. c.in-Ok.ensures.whole which

pub returns-in-Err-clause-passes : goal.returns-in-Err-clause-passes
returns-in-Err-clause-passes g c = λ which. c.in-Err.ensures.part which

pub returns-in-Ok-clause-written : goal.returns-in-Ok-clause-written
returns-in-Ok-clause-written g c =
    let kept = c.in-Ok.ensures.cause in
    record { later = kept.later; once = kept.once; failed = λ same. absurd (cc); stayed = λ _. kept.stayed }

pub returns-in-Err-clause-written : goal.returns-in-Err-clause-written
returns-in-Err-clause-written g c =
    let failed = c.in-Err.ensures.cause in
    record { later = failed.later; once = failed.once; failed = λ _. failed.failed; stayed = λ no. absurd (no refl) }
