use Rattle.std.proofs.Common.{arith}
use Rattle.split_order.proofs.since.Since.begin_anew.Goals as goal

pub returns-clause-erased : goal.returns-clause-erased
returns-clause-erased c at below = c.loop-place.invariant.clear at (let size = c.loop-place.invariant.size in omega arith)
