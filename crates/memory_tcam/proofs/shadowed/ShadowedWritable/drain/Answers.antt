use Rattle.std.proofs.Common.{sym, ◌∙◌, arith}
use Rattle.memory_tcam.proofs.Kept.{follows-drained}
use Rattle.memory_tcam.proofs.Shadows.{drain_more}
use Rattle.memory_tcam.proofs.shadowed.ShadowedWritable.drain.Goals as goal

pub invariant_of-self : goal.invariant_of-self
invariant_of-self g c =
    let i = c.self.inside in
    let was = c.self.invariant.0 in
    let room = c.self.invariant.1 in
    rw c.and-self-inside.ensures (
      record {
        size = was.size ∙ sym c.drain.ensures.slots;
        follows = follows-drained i.lookups.state i.events.items was.follows;
        put = drain_more g.H.Hardware.puts g.H.Hardware.drains i.given.items i.events.items i.faults i.hardware c.drain.new.self was.put c.drain.ensures.drains;
      },
      omega arith,
    )
