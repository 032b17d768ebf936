use Rattle.move_planner.proofs.Single.{single}
use Rattle.move_planner.proofs.landing.only_free.Goals as goal

pub returns-in-None : goal.returns-in-None
returns-in-None c = λ wish. single c.args.slots.now c.args.start c.args.end c.in_ok-only.only wish c.requires c.in_ok-only.ensures c.in-None.ensures
