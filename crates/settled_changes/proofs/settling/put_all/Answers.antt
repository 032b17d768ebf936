use Rattle.settled_changes.proofs.Whole.{put-next}
use Rattle.settled_changes.proofs.settling.put_all.Goals as goal

pub loop-i-preserved : goal.loop-i-preserved
loop-i-preserved c =
    put-next c.args.whole.now.rules c.loop-i.i c.at-rule.result.now c.args.requests.now.items c.loop-i.requests.items c.push.new.self.items c.at-rule.ensures c.loop-i.invariant c.in_ok-push.ensures.items
