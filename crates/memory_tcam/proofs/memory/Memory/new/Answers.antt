use Rattle.memory_tcam.proofs.Kept.{blank-is}
use Rattle.memory_tcam.proofs.memory.Memory.new.Goals as goal

pub returns : goal.returns
returns c =
    blank-is c.args.slots _ _ _ _ _ c.in_ok-slots.ensures c.new-src.ensures.words c.new-dst.ensures.words c.new-src.ensures.spare c.new-dst.ensures.spare
