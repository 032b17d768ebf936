use Rattle.std.proofs.Common.{arith}
use Rattle.word_cubes.proofs.Parts.{in_half}
use Rattle.word_cubes.proofs.cutting.halves.Goals as goal

pub returns : goal.returns
returns c = λ word is_word within.
    in_half word.lane is_word c.args.cube.now.value.lane c.args.cube.now.mask.lane c.args.lane c.args.bit (omega arith) (omega arith) c.requires.lane c.requires.bit within
