use Rattle.move_planner.proofs.Unmarked.{quiet_up_to}
use Rattle.move_planner.proofs.boundary.next_change.Goals as goal

pub returns-clause-quiet : goal.returns-clause-quiet
returns-clause-quiet c =
    quiet_up_to c.args.slots.now c.args.sides.now c.args.from c.min-last.result c.unwrap_or-marked.result c.unwrap_or-marked-2.result c.unwrap_or.result
    c.first_marked.result c.first_marked-2.result c.first_free.result
    c.first_marked.ensures c.unwrap_or-marked.ensures c.first_marked-2.ensures c.unwrap_or-marked-2.ensures c.first_free.ensures c.unwrap_or.ensures
