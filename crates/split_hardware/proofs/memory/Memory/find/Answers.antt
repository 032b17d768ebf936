use Rattle.std.proofs.Common.{◌∙◌}
use Rattle.split_hardware.proofs.Halves.{halves_hit}
use Rattle.split_hardware.proofs.memory.Memory.find.Goals as goal

pub returns : goal.returns
returns c = rw (← c.self.view_is) (c.first.ensures ∙ halves_hit c.self.inside.slots c.args.word.now)
