use Rattle.std.proofs.Common.{◌<◌, arith}
use Rattle.memory_tcam.proofs.Kept.{follows-written}
use Rattle.memory_tcam.proofs.mem.MemTcamWritable.write.Goals as goal

pub make-requires-clause-room : goal.make-requires-clause-room
make-requires-clause-room c =
    let some : 0 < c.self.inside.log.spare = rw (← c.self.view_is) at c.requires.room in
    let room = c.self.invariant.1 in
    omega arith

pub invariant_of-self : goal.invariant_of-self
invariant_of-self c =
    let room = c.self.invariant.1 in
    let made = c.make.ensures.spare in
    let less = c.write.ensures.spare in
    rw (c.write.ensures.logged) (follows-written _ _ c.self.inside.log.events _ c.self.invariant.0 c.make.ensures.state, omega arith)
