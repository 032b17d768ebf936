use Rattle.std.specs.Prelude.{nat_lt}
use Rattle.std.proofs.Common.{rules, ◌≡◌, ◌-◌, ◌∙◌, arith}
use Rattle.batch_order.proofs.planning.Ended.{lower_last}
use Rattle.batch_order.proofs.aims.has_lower.Goals as goal

pub returns-then-count-gt0 : goal.returns-then-count-gt0
returns-then-count-gt0 c =
    let count = c.len-count.ensures.count in
    let some = c.if-count-gt0.true in
    (let is : c.lt.result ≡ nat_lt c.at.result.now.priority c.args.rank = search rules in is) ∙ lower_last c.args.rules.now.rules c.args.rank (c.len-count.result - 1) c.at.result.now c.len-count.ensures.falling (omega arith) c.at.ensures
