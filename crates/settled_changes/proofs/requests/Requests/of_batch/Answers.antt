use Rattle.settled_changes.proofs.OverNone.{strict_next}
use Rattle.settled_changes.proofs.requests.Requests.of_batch.Goals as goal

pub loop-i-preserved : goal.loop-i-preserved
loop-i-preserved c =
    strict_next c.args.batch.now c.loop-i.i c.at-command.result c.loop-i.requests c.push_within.new.self c.at-command.ensures c.loop-i.invariant c.in-Ok.ensures.pushed
