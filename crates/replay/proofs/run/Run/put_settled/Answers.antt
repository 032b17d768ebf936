-- The run with the batch in the place of what was asked for.
use Rattle.std.proofs.Common.{subst}
use Rattle.replay.specs.Running.{IsRun}
use Rattle.replay.proofs.between.SettledActs.{settled-inside}
use Rattle.replay.proofs.run.Run.put_settled.Goals as goal

pub invariant_of-self : goal.invariant_of-self
invariant_of-self c =
    settled-inside c.args.batch c.replace-pending.new.dest c.replace-asked.new.dest c.replace-pending.ensures.after c.replace-asked.ensures.after c.self.view_is c.self.invariant
    c.requires.idle c.requires.taken c.requires.settled

pub returns-clause-was : goal.returns-clause-was
returns-clause-was c = subst IsRun c.self.view_is c.self.invariant
