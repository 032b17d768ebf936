use Rattle.split_hardware.proofs.Kept.{looks}
use Rattle.split_hardware.proofs.lookups.Lookups.look.Goals as goal

pub returns : goal.returns
returns c =
    rw (← c.self.view_is) (looks c.self.inside.memory.state c.args.key.now c.word-word.result c.find-slot.result c.read.result c.word-word.ensures c.find-slot.ensures c.read.ensures)
