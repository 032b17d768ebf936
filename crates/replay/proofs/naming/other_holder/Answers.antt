-- The slots are read one by one, but for the one that is written.
use Rattle.std.proofs.Common.{◌<◌, None, length, arith, sym, ◌∙◌}
use Rattle.std.specs.Prelude.{slice_set}
use Rattle.std.proofs.lemmas.List.{length-set}
use Rattle.tcam_device.specs.Insertion.{holds_match}
use Rattle.tcam_device.specs.View.{device_state, journal}
use Rattle.slot_order.proofs.Lists.{position_found, position_none}
use Rattle.readback.proofs.ReadSlots.{replay_slots}
use Rattle.replay.proofs.naming.other_holder.Goals as goal

pub returns-then-is_other_holder : goal.returns-then-is_other_holder
returns-then-is_other_holder g c =
    let slots = (device_state (g.D.Writable.view c.args.device.now)).slots in
    let size = replay_slots (g.D.Writable.view c.args.device.now).slots (journal (g.D.Writable.view c.args.device.now)) in
    let same = length-set slots c.args.slot None in
    let past = c.loop-at-test.true in
    let all = c.slots-at-end.ensures in
    let inside : c.loop-at.at < length (slice_set slots c.args.slot None) = omega arith in
    sym (position_found (holds_match c.args.entry.now) (slice_set slots c.args.slot None) c.loop-at.at None inside c.loop-at.invariant (sym c.is_other_holder.ensures ∙ c.if-is_other_holder.true))

pub returns : goal.returns
returns g c =
    let slots = (device_state (g.D.Writable.view c.args.device.now)).slots in
    let size = replay_slots (g.D.Writable.view c.args.device.now).slots (journal (g.D.Writable.view c.args.device.now)) in
    let same = length-set slots c.args.slot None in
    let past = c.loop-at-test.false in
    let all = c.slots-at-end.ensures in
    sym (position_none (holds_match c.args.entry.now) (slice_set slots c.args.slot None) None (λ k below. c.loop-at.invariant k (omega arith)))
