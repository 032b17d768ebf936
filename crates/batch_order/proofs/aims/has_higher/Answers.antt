use Rattle.std.specs.Prelude.{nat_lt}
use Rattle.std.proofs.Common.{rules, ◌≡◌, ◌∙◌}
use Rattle.batch_order.proofs.planning.Ended.{higher_first}
use Rattle.batch_order.proofs.aims.has_higher.Goals as goal

pub returns-then-count-gt0 : goal.returns-then-count-gt0
returns-then-count-gt0 c = (let is : c.lt.result ≡ nat_lt c.args.rank c.at.result.now.priority = search rules in is) ∙ higher_first c.args.rules.now.rules c.args.rank c.at.result.now c.len-count.ensures.falling c.at.ensures
