use Rattle.std.proofs.Common.{arith}
use Rattle.placement.specs.Live.{is_above}
use Rattle.placement.proofs.Readied.{start_inside}
use Rattle.move_planner.proofs.sides.find_sides.Goals as goal

pub mark_behind-requires-clause-inside : goal.mark_behind-requires-clause-inside
mark_behind-requires-clause-inside c =
    let a = start_inside (is_above c.args.index.now.live) c.args.slots.now c.args.id in
    let b = c.requires.start in omega arith

pub mark_before-requires-clause-inside : goal.mark_before-requires-clause-inside
mark_before-requires-clause-inside c =
    let a = start_inside (is_above c.args.index.now.live) c.args.slots.now c.args.id in
    let b = c.requires.start in omega arith
