-- The slot itself is left out.
use Rattle.std.proofs.Common.{◌<◌, length, arith, sym, ◌∙◌, ap, None}
use Rattle.tcam_device.specs.Insertion.{holds_match}
use Rattle.tcam_device.specs.View.{device_state, journal}
use Rattle.slot_order.proofs.Writes.{slot_other}
use Rattle.readback.proofs.ReadSlots.{replay_slots}
use Rattle.replay.proofs.making.Holders.{left-out}
use Rattle.replay.proofs.naming.is_other_holder.Goals as goal

pub returns-then-at-slot : goal.returns-then-at-slot
returns-then-at-slot g c =
    let slots = (device_state (g.D.Writable.view c.args.device.now)).slots in
    let size = replay_slots (g.D.Writable.view c.args.device.now).slots (journal (g.D.Writable.view c.args.device.now)) in
    let least = c.requires.slot in
    let inside : c.args.slot < length slots = omega arith in
    sym (left-out slots c.args.slot c.args.at c.args.entry.now inside c.if-at-slot.true)

pub returns : goal.returns
returns g c =
    let slots = (device_state (g.D.Writable.view c.args.device.now)).slots in
    c.holds_match.ensures ∙ ap (holds_match c.args.entry.now) (c.read_slot.ensures ∙ sym (slot_other slots c.args.slot None c.args.at c.if-at-slot.false))
