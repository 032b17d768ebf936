use Rattle.std.proofs.Common.{◌≤◌, arith}
use Rattle.rule_model.proofs.Prefixes.{upper_block}
use Rattle.rule_model.proofs.Prefix.v4.Goals as goal

pub invariant_of-result : goal.invariant_of-result
invariant_of-result c =
    let wide = c.from-2.ensures in
    let fits : c.args.len ≤ 32 = omega arith in
    rw wide (upper_block c.args.addr c.args.len c.ranges.addr.fits fits (rw c.from.ensures at c.if-from-len-ne0.false))
