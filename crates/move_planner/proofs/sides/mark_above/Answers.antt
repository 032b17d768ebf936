use Rattle.placement.specs.Live.{is_above}
use Rattle.placement.proofs.Above.{ids_above_are}
use Rattle.move_planner.proofs.Ends.{both_are}
use Rattle.move_planner.proofs.Marks.{reached}
use Rattle.move_planner.proofs.sides.mark_above.Goals as goal

pub returns : goal.returns
returns c =
    reached (λ other. is_above c.args.index.now.live other c.args.id) c.args.slots.now c.args.start c.above.result c.args.marks.now _ c.requires.once
    (both_are c.above.result _ (λ other. is_above c.args.index.now.live other c.args.id) c.above.ensures.exact (ids_above_are c.args.index.now.live c.args.id))
    c.mark_all.ensures
