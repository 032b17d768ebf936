use Rattle.std.proofs.Common.{◌+◌, refl, sym, arith}
use Rattle.slot_pool.proofs.Scan.{next_free_is}
use Rattle.move_planner.proofs.Near.{one_behind, none_up_to, next_past}
use Rattle.move_planner.proofs.boundary.next_free_within.Goals as goal

pub returns-then-next-end : goal.returns-then-next-end
returns-then-next-end c =
    let slots = c.args.slots.now in
    let is = sym c.in-Some.ensures in
    ((next_free_is slots c.args.slot c.in-Some.next is).0, c.if-next-end.true, one_behind slots (c.args.slot + 1) c.args.slot c.in-Some.next refl is)

pub returns-else-next-end : goal.returns-else-next-end
returns-else-next-end c = next_past c.args.slots.now c.args.slot c.args.end c.in-Some.next c.requires.order (omega arith) (sym c.in-Some.ensures)

pub returns-in-None : goal.returns-in-None
returns-in-None c = none_up_to c.args.slots.now c.args.slot c.args.end c.requires.order c.requires.inside (sym c.in-None.ensures)
