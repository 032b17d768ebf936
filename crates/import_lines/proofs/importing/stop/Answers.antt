use Rattle.std.proofs.Common.{refl, inr}
use Rattle.std.proofs.KnownBytes.{Appends-nil}
use Rattle.import_lines.proofs.Tells.{put-behind, closes-same}
use Rattle.import_lines.proofs.importing.stop.Goals as goal

pub returns-in-Ok-clause-stops : goal.returns-in-Ok-clause-stops
returns-in-Ok-clause-stops g c = λ which.
    closes-same _ _ _ _ _ _ (put-behind _ _ _ _ c.as_slice.ensures.value c.in-Ok.ensures c.clear.ensures.items) (c.write_last.ensures.closes which)

pub returns-in-Err-clause-stops : goal.returns-in-Err-clause-stops
returns-in-Err-clause-stops g c = λ which. inr (refl, Appends-nil _)

pub returns-in-Ok-clause-written : goal.returns-in-Ok-clause-written
returns-in-Ok-clause-written g c = c.write_last.ensures.written (λ e. cc)
