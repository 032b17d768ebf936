use Rattle.move_planner.proofs.Landings.{rank_inside}
use Rattle.move_planner.proofs.landing.rank_slot.Goals as goal

pub returns-clause-inside : goal.returns-clause-inside
returns-clause-inside c = λ less. rank_inside c.args.slots c.args.before c.args.all less
