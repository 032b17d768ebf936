use Rattle.std.proofs.Common.{◌+◌, ◌∙◌, refl}
use Rattle.write_judge.proofs.Blocks.{part_is}
use Rattle.write_judge.proofs.watched.block_of.Goals as goal

pub returns : goal.returns
returns c = c.in_ok-block.ensures.items ∙ part_is c.args.slots.now c.args.from c.args.count (c.args.from + c.args.count) refl
