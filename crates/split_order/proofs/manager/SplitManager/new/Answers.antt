use Rattle.split_order.proofs.Rested.{fresh_is}
use Rattle.split_order.proofs.manager.SplitManager.new.Goals as goal

pub invariant_of-result : goal.invariant_of-result
invariant_of-result c =
    fresh_is c.in_ok-since.since c.args.slots c.args.mode c.args.placement c.in_ok-whole.whole c.new-events.result.items c.in_ok-whole.ensures.fresh c.in_ok-whole.ensures.on_blank c.new-events.ensures c.requires.most
    c.in_ok-since.ensures.size c.in_ok-since.ensures.since
