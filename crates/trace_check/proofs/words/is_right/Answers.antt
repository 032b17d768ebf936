use Rattle.std.proofs.Common.{arith}
use Rattle.slot_order.proofs.Writes.{slot_inside}
use Rattle.trace_check.proofs.words.is_right.Goals as goal

pub returns-clause-right : goal.returns-clause-right
returns-clause-right c _ bit range live =
    let all = c.loop-bit-test.false in
    let places = (c.loop-bit.invariant.map (omega arith)).places in
    let inside = slot_inside c.args.live.now bit range live in
    c.loop-bit.invariant.right bit range (omega arith) live
