-- What waited before is seen of the run again.
use Rattle.std.proofs.Common.{ap, subst, sym}
use Rattle.replay.specs.Running.{IsRun, Running}
use Rattle.replay.proofs.run.Run.put_back.Goals as goal

pub invariant_of-self : goal.invariant_of-self
invariant_of-self c = subst (λ (run : Running). IsRun (record run { pending = c.args.pending; asked = c.args.asked })) (sym c.self.view_is) c.requires

pub returns : goal.returns
returns c = ap (λ (run : Running). record run { pending = c.args.pending; asked = c.args.asked }) c.self.view_is
