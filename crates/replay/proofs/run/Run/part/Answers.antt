-- What a run is once its removals go first, and that the rest may join.
use Rattle.replay.proofs.parting.Parts.{joins-inside, parted-inside}
use Rattle.replay.proofs.run.Run.part.Goals as goal

pub invariant_of-self : goal.invariant_of-self
invariant_of-self c = parted-inside c.in-Some.first c.in-Some.rest c.self.view_is c.self.invariant c.requires.idle (rw c.in-Some.is at c.in_ok-first.ensures)

pub returns-clause-joins : goal.returns-clause-joins
returns-clause-joins c = joins-inside c.in-Some.first c.in-Some.rest c.self.view_is c.self.invariant c.requires.idle (rw c.in-Some.is at c.in_ok-first.ensures)
