use Rattle.placement.specs.Live.{is_above}
use Rattle.placement.proofs.Above.{ids_below_are}
use Rattle.move_planner.proofs.Ends.{both_are}
use Rattle.move_planner.proofs.Marks.{reached}
use Rattle.move_planner.proofs.sides.mark_below.Goals as goal

pub returns : goal.returns
returns c =
    reached (λ other. is_above c.args.index.now.live c.args.id other) c.args.slots.now c.args.start c.below.result c.args.marks.now _ c.requires.once
    (both_are c.below.result _ (λ other. is_above c.args.index.now.live c.args.id other) c.below.ensures.exact (ids_below_are c.args.index.now.live c.args.id))
    c.mark_all.ensures
