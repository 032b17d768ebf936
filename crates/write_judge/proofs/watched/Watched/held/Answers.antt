use Rattle.std.proofs.Common.{◌∙◌, ap}
use Rattle.tcam_device.specs.State.{State}
use Rattle.write_judge.proofs.watched.Watched.held.Goals as goal

pub returns : goal.returns
returns c = c.as_slice.ensures.value ∙ ap (λ (s : State). s.slots) c.self.view_is
