use Rattle.std.proofs.Common.{sym, ◌∙◌, arith}
use Rattle.split_device.proofs.InMemory.{replay_drain}
use Rattle.split_hardware.proofs.Shadows.{drain_more}
use Rattle.split_hardware.proofs.shadowed.SplitShadowedSplitDevice.drain.Goals as goal

pub invariant_of-self : goal.invariant_of-self
invariant_of-self g c =
    let i = c.self.inside in
    let was = c.self.invariant.0 in
    let room = c.self.invariant.1 in
    rw c.and-self-inside.ensures (
      record {
        size = was.size ∙ sym c.drain.ensures.slots;
        follows = replay_drain i.lookups.state i.events.items was.follows;
        put = drain_more g.H.SplitHardware.puts g.H.SplitHardware.drains i.given.items i.events.items i.faults i.hardware c.drain.new.self was.put c.drain.ensures.drains;
      },
      omega arith,
    )
