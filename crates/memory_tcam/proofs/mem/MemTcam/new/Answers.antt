use Rattle.std.proofs.Common.{ap, arith}
use Rattle.memory_tcam.specs.Tcam.{RoomyPipeline}
use Rattle.memory_tcam.proofs.Kept.{follows-blank}
use Rattle.memory_tcam.proofs.mem.MemTcam.new.Goals as goal

pub invariant_of-result : goal.invariant_of-result
invariant_of-result c =
    rw c.new-2.ensures (follows-blank c.args.slots _ (ap (λ (line : RoomyPipeline). line.state) c.in_ok-new.ensures), omega arith)
