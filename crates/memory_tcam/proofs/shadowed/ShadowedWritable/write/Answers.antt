use Rattle.std.proofs.Common.{◌<◌, Ok, Err, ap, sym, length, ◌∙◌, arith}
use Rattle.tcam_device.specs.State.{State}
use Rattle.tcam_device.proofs.Kept.{slots-apply}
use Rattle.memory_tcam.proofs.Kept.{follows-written}
use Rattle.memory_tcam.proofs.Shadows.{put_more}
use Rattle.memory_tcam.proofs.shadowed.ShadowedWritable.write.Goals as goal

pub make-requires-clause-room : goal.make-requires-clause-room
make-requires-clause-room g c =
    let some : 0 < c.self.inside.room = rw (← c.self.view_is) at c.requires.room in
    let room = c.self.invariant.1 in
    omega arith

pub invariant_of-self : goal.invariant_of-self
invariant_of-self g c =
    let i = c.self.inside in
    let was = c.self.invariant.0 in
    rw c.saturating_add-self-inside.ensures (
      record {
        size = was.size ∙ sym c.put.ensures.slots;
        follows = was.follows;
        put = put_more g.H.Hardware.puts g.H.Hardware.drains i.given.items i.events.items i.faults i.hardware c.put.new.self c.args.write c.put.result (Err c.in-Err.fault)
            was.put c.put.ensures.puts c.in-Err.is;
      },
      c.self.invariant.1,
    )

pub invariant_of-self-2 : goal.invariant_of-self-2
invariant_of-self-2 g c =
    let i = c.self.inside in
    let was = c.self.invariant.0 in
    let room = c.self.invariant.1 in
    let made = c.make.ensures.spare in
    rw c.and-self-inside.ensures (
      record {
        size = ap (λ (s : State). length s.slots) c.make.ensures.state ∙ (slots-apply i.lookups.state c.args.write ∙ (was.size ∙ sym c.put.ensures.slots));
        follows = follows-written i.lookups.state c.make.new.self.state i.events.items c.args.write was.follows c.make.ensures.state;
        put = put_more g.H.Hardware.puts g.H.Hardware.drains i.given.items i.events.items i.faults i.hardware c.put.new.self c.args.write c.put.result (Ok tt) was.put c.put.ensures.puts c.in_default.is;
      },
      omega arith,
    )
