use Rattle.std.proofs.Common.{refl}
use Rattle.std.proofs.KnownBytes.{Appends-nil}
use Rattle.import_lines.proofs.Tells.{put-behind, passes-same, always}
use Rattle.import_lines.proofs.importing.pass.Goals as goal

pub returns-in-Ok-clause-counted : goal.returns-in-Ok-clause-counted
returns-in-Ok-clause-counted g c = always c.write_on.result _ refl

pub returns-in-Ok-clause-passes : goal.returns-in-Ok-clause-passes
returns-in-Ok-clause-passes g c = λ which.
    passes-same _ _ _ _ _ (put-behind _ _ _ _ c.as_slice.ensures.value c.in-Ok.ensures c.clear.ensures.items) (c.write_on.ensures.passes which)

pub returns-in-Err-clause-passes : goal.returns-in-Err-clause-passes
returns-in-Err-clause-passes g c = λ which. Appends-nil _
