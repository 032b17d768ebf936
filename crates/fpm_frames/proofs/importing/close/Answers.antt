use Rattle.fpm_frames.proofs.Telling.{put-behind, writes-same}
use Rattle.fpm_frames.proofs.importing.close.Goals as goal

pub returns-in-Ok-clause-closes : goal.returns-in-Ok-clause-closes
returns-in-Ok-clause-closes g c = λ which.
    writes-same _ _ _ _ _ _ (put-behind _ _ _ _ c.as_slice.ensures.value c.in-Ok.ensures c.clear.ensures.items) (c.write.ensures.writes which)
