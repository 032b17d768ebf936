use Rattle.std.proofs.Common.{take, sym}
use Rattle.readback.specs.Tasks.{known_pieces}
use Rattle.readback.proofs.Walks.{slot_read}
use Rattle.readback.proofs.ReadSlots.{next_slot, one_more_in}
use Rattle.readback.proofs.reading.pieces_in.Goals as goal

pub loop-slot-preserved : goal.loop-slot-preserved
loop-slot-preserved c =
    let read = slot_read c.args.held.now c.loop-slot.slot-index c.slot-item.result c.loop-slot-test.true c.slot-item.is in
    rw c.in_ok-push.ensures.items (rw (next_slot c.args.held.now c.loop-slot.slot-index c.slot-item.result c.loop-slot-test.true (sym read))
    (one_more_in (take c.loop-slot.slot-index c.args.held.now) (known_pieces c.args.commit.now) c.loop-slot.places.items c.slot-item.result c.piece_in.result c.loop-slot.invariant
    c.piece_in.ensures.known c.piece_in.ensures.strange))
