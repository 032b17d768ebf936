use Rattle.std.proofs.Common.{arith}
use Rattle.counted_blocks.proofs.Groups.{slice-group}
use Rattle.counted_blocks.proofs.weights.group_of.Goals as goal

pub returns : goal.returns
returns c = slice-group c.args.weights.now _ _ (omega arith) (omega arith)
