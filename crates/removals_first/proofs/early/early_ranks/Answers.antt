use Rattle.std.proofs.Common.{◌<◌, ◌-◌, length, arith}
use Rattle.removals_first.proofs.FromLowest.{rule-at, lowest-goes, lowest-stays}
use Rattle.removals_first.proofs.early.early_ranks.Goals as goal

pub loop-place-preserved-in_ok-insert : goal.loop-place-preserved-in_ok-insert
loop-place-preserved-in_ok-insert c =
    lowest-goes c.args.rules.now.rules c.args.batch.now c.loop-place.place (c.loop-place.place - 1) c.at.result.now c.args.names.now.named c.args.names.now.removed
    c.loop-place.set c.loop-place.ranks.items (omega arith) c.at.ensures c.requires c.loop-place.invariant
    c.goes_first.result c.push_front.new.self.items c.insert.new.self (c.goes_first.ensures c.at.result.now c.at.ensures) c.if-goes_first.true
    c.in_ok-push_front.ensures.items c.in_ok-insert.ensures.updates

pub loop-place-preserved : goal.loop-place-preserved
loop-place-preserved c =
    let within : c.loop-place.place - 1 < length c.args.rules.now.rules = let inside = c.loop-place.invariant.within in omega arith in
    let found = rule-at c.args.rules.now.rules (c.loop-place.place - 1) within in
    lowest-stays c.args.rules.now.rules c.args.batch.now c.loop-place.place (c.loop-place.place - 1) found.0 c.args.names.now.named c.args.names.now.removed
    c.loop-place.set c.loop-place.ranks.items (omega arith) found.1 c.requires c.loop-place.invariant
    c.goes_first.result (c.goes_first.ensures found.0 found.1) c.if-goes_first.false
