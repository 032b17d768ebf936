use Rattle.std.proofs.Common.{refl, inr}
use Rattle.std.proofs.KnownBytes.{Appends-nil}
use Rattle.import_lines.proofs.Tells.{put-behind, closes-same}
use Rattle.import_lines.proofs.importing.end_short.Goals as goal

pub returns-in-Ok-clause-ends : goal.returns-in-Ok-clause-ends
returns-in-Ok-clause-ends g c = λ which.
    closes-same _ _ _ _ _ _ (put-behind _ _ _ _ c.as_slice.ensures.value c.in-Ok.ensures c.clear.ensures.items) (c.write_last.ensures.closes which)

pub returns-in-Err-clause-ends : goal.returns-in-Err-clause-ends
returns-in-Err-clause-ends g c = λ which. inr (refl, Appends-nil _)

pub returns-in-Ok-clause-written : goal.returns-in-Ok-clause-written
returns-in-Ok-clause-written g c = c.write_last.ensures.written (λ e. cc)
