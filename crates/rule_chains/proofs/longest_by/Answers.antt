use Rattle.std.proofs.Common.{◌-◌, arith}
use Rattle.rule_chains.proofs.FromLowest.{lengths-none, lengths-more, lengths-all}
use Rattle.rule_chains.proofs.longest_by.Goals as goal

pub loop-from-init : goal.loop-from-init
loop-from-init c = lengths-none c.args.rules.now.rules c.len-from.result c.args.lengths.now c.len-from.ensures.count c.requires

pub loop-from-preserved : goal.loop-from-preserved
loop-from-preserved c =
    lengths-more c.args.rules.now.rules c.loop-from.from (c.loop-from.from - 1) c.at-upper.result.now c.loop-from.lengths c.loop-from.longest c.longest_below-own.result
    c.with_length-longest.result (omega arith) c.at-upper.ensures c.loop-from.invariant c.rule_conditions.ensures c.longest_below-own.ensures.longest c.with_length-longest.ensures

pub returns : goal.returns
returns c =
    lengths-all c.args.rules.now.rules c.loop-from.from c.loop-from.lengths c.loop-from.longest (omega (arith, c.loop-from-test.false))
    c.len-from.ensures.falling c.loop-from.invariant
