use Rattle.std.proofs.Common.{arith}
use Rattle.memory_tcam.proofs.mem.MemTcamWritable.reserve.Goals as goal

-- where the tables have no memory for it,
pub invariant_of-self : goal.invariant_of-self
invariant_of-self c =
    let room = c.self.invariant.1 in
    let kept = c.reserve.ensures.least in
    rw c.reserve.ensures.state (c.self.invariant.0, omega arith)

-- and where they have
pub invariant_of-self-2 : goal.invariant_of-self-2
invariant_of-self-2 c =
    let room = c.self.invariant.1 in
    let kept = c.reserve.ensures.least in
    let enough = c.in_ok-reserve.ensures.enough in
    let most = c.reserve-2.ensures.most in
    rw (c.reserve.ensures.state, c.reserve-2.ensures.events) (c.self.invariant.0, omega arith)
