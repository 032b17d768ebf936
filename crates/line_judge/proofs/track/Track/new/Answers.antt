use Rattle.std.proofs.Common.{◌∙◌, refl}
use Rattle.line_judge.proofs.LinesTaken.{start_known, start_right}
use Rattle.line_judge.proofs.track.Track.new.Goals as goal

pub returns-clause-known : goal.returns-clause-known
returns-clause-known c = start_known c.in_ok-rules.rules c.new-batch.result c.in_ok-device.device (c.in_ok-rules.ensures ∙ c.new-none.ensures.rules) c.new-batch.ensures c.in_ok-device.ensures

pub returns-clause-right : goal.returns-clause-right
returns-clause-right c = start_right _ c.new-batch.ensures refl (c.in_ok-rules.ensures ∙ c.new-none.ensures.rules) c.in_ok-device.ensures refl
