-- A run before its first act shows the set of no rules.
use Rattle.replay.proofs.between.Runs.{begun-run}
use Rattle.replay.proofs.run.Run.new.Goals as goal

pub invariant_of-result : goal.invariant_of-result
invariant_of-result c = rw (c.in_ok-new.ensures.fresh, c.in_ok-new-2.ensures, c.new-3.ensures) (begun-run c.args.slots c.args.mode c.args.placement c.args.family c.args.trace c.args.depth c.args.json c.args.names c.requires.least c.requires.most)
