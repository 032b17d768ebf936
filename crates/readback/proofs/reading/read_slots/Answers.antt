use Rattle.std.proofs.Common.{arith}
use Rattle.tcam_device.specs.View.{device_state, journal}
use Rattle.readback.proofs.ReadSlots.{replay_slots, next_read, all_read}
use Rattle.readback.proofs.reading.read_slots.Goals as goal

pub loop-slot-preserved : goal.loop-slot-preserved
loop-slot-preserved g c =
    let slots = (device_state (g.D.Writable.view c.args.device.now)).slots in
    let size = replay_slots (g.D.Writable.view c.args.device.now).slots (journal (g.D.Writable.view c.args.device.now)) in
    let inside = c.loop-slot-test.true in
    let all = c.slots-slot-end.ensures in
    next_read slots c.loop-slot.held.items c.push.new.self.items c.loop-slot.slot c.read_slot.result (omega arith) c.read_slot.ensures c.loop-slot.invariant c.in_ok-push.ensures.items

pub returns-clause-slots : goal.returns-clause-slots
returns-clause-slots g c =
    let slots = (device_state (g.D.Writable.view c.args.device.now)).slots in
    let size = replay_slots (g.D.Writable.view c.args.device.now).slots (journal (g.D.Writable.view c.args.device.now)) in
    let past = c.loop-slot-test.false in
    let all = c.slots-slot-end.ensures in
    all_read slots c.loop-slot.held.items c.loop-slot.slot (omega arith) c.loop-slot.invariant
