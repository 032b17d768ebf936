use Rattle.std.proofs.lemmas.Simd.{get_or-chunk}
use Rattle.eight_lanes.proofs.eight.Goals as goal

pub returns-clause-lanes : goal.returns-clause-lanes
returns-clause-lanes c k l = get_or-chunk c.args.at 8 c.args.column.now k 0 l
