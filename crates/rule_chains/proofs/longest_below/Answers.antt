use Rattle.std.proofs.Common.{arith}
use Rattle.rule_chains.proofs.FromLowest.{so_far-none, so_far-more, so_far-all, so_far-most}
use Rattle.rule_chains.proofs.longest_below.Goals as goal

pub loop-below-init : goal.loop-below-init
loop-below-init c = so_far-none c.args.rules.now.rules c.args.lengths.now c.args.upper.now c.args.from c.requires.known

pub loop-below-preserved : goal.loop-below-preserved
loop-below-preserved c =
    so_far-more c.args.rules.now.rules c.args.lengths.now c.args.upper.now c.args.from c.loop-below.below c.loop-below.longest c.at.result.now c.overlaps-meets.result
    c.with_length-longest.result c.requires.count c.at.ensures c.overlaps-meets.ensures.test c.with_length-longest.ensures c.loop-below.invariant

pub returns-clause-longest : goal.returns-clause-longest
returns-clause-longest c = so_far-all c.args.rules.now.rules c.args.lengths.now c.args.upper.now c.args.from c.loop-below.below c.loop-below.longest (omega arith) c.loop-below.invariant

pub returns-clause-most : goal.returns-clause-most
returns-clause-most c =
    so_far-most c.args.rules.now.rules c.args.upper.now c.args.from c.loop-below.longest c.requires.within
    (so_far-all c.args.rules.now.rules c.args.lengths.now c.args.upper.now c.args.from c.loop-below.below c.loop-below.longest (omega arith) c.loop-below.invariant)
