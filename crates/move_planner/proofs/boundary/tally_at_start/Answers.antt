use Rattle.std.proofs.Common.{refl, arith}
use Rattle.move_planner.proofs.Tallied.{tallied_first}
use Rattle.move_planner.proofs.boundary.tally_at_start.Goals as goal

pub returns : goal.returns
returns c =
    let a = c.free_just_before.ensures in let b = c.free_within-between.ensures in let d = c.free_just_behind.ensures in
    tallied_first c.args.slots.now c.args.sides.now _ refl c.count.ensures (omega arith) (omega arith)
