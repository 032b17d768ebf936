use Rattle.std.proofs.Common.{arith}
use Rattle.word_cubes.proofs.Agreed.{matched-agrees}
use Rattle.word_cubes.proofs.lanes.lane_of.Goals as goal

pub returns : goal.returns
returns c = λ word is_word within.
    matched-agrees word.lane c.args.cube.now.value.lane c.args.cube.now.mask.lane c.args.lane (omega arith) (omega arith) (omega arith) within
