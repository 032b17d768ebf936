-- Whether the sink failed makes no difference to what a run is.
use Rattle.replay.proofs.between.Runs.{marked-run}
use Rattle.replay.proofs.run.Run.mark.Goals as goal

pub invariant_of-self : goal.invariant_of-self
invariant_of-self c = marked-run _ _ c.self.invariant
