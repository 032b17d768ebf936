use Rattle.std.proofs.Common.{arith}
use Rattle.memory_tcam.proofs.Kept.{follows-drained}
use Rattle.memory_tcam.proofs.mem.MemTcamWritable.drain.Goals as goal

pub invariant_of-self : goal.invariant_of-self
invariant_of-self c =
    let room = c.self.invariant.1 in
    let less = c.drain.ensures.spare in
    rw c.drain.ensures.logged (follows-drained _ c.self.inside.log.events c.self.invariant.0, omega arith)
