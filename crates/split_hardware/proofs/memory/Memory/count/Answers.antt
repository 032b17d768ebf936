use Rattle.std.proofs.Common.{sym, ◌∙◌}
use Rattle.split_hardware.proofs.Halves.{halves_size}
use Rattle.split_hardware.proofs.memory.Memory.count.Goals as goal

pub returns : goal.returns
returns c = rw (← c.self.view_is) (c.len.ensures.value ∙ sym (halves_size c.self.inside.slots))
