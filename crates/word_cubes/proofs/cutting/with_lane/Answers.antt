use Rattle.std.proofs.Common.{arith}
use Rattle.word_cubes.proofs.Parts.{in_part, no_part}
use Rattle.word_cubes.proofs.cutting.with_lane.Goals as goal

pub returns-then-own-value-ne0-clause-none : goal.returns-then-own-value-ne0-clause-none
returns-then-own-value-ne0-clause-none c = λ none word is_word within more.
    no_part word.lane is_word c.args.cube.now.value.lane c.args.cube.now.mask.lane c.args.lane c.args.value c.args.mask (omega arith) (omega arith) c.requires c.if-own-value-ne0.true within more

pub returns-clause-some : goal.returns-clause-some
returns-clause-some c = λ word is_word within more.
    in_part word.lane is_word c.args.cube.now.value.lane c.args.cube.now.mask.lane c.args.lane c.args.value c.args.mask (omega arith) (omega arith) c.requires within more
