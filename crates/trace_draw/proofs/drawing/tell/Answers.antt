use Rattle.std.proofs.Common.{refl}
use Rattle.trace_draw.proofs.drawing.tell.Goals as goal

pub returns-in-Err-clause-told : goal.returns-in-Err-clause-told
returns-in-Err-clause-told g c =
    let failed = c.in-Err.ensures in (
      c.as_bytes.result.now,
      record {
        whole = λ no. absurd (no refl);
        part = λ _. failed.part;
        cause = record {
          later = failed.cause.later;
          once = failed.cause.once;
          failed = λ _. failed.cause.failed;
          stayed = λ no. absurd (no refl);
        };
      },
      tt,
    )
