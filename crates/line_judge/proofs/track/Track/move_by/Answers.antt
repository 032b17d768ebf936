use Rattle.std.proofs.Common.{◌∙◌, arith}
use Rattle.line_judge.proofs.track.Track.move_by.Goals as goal

pub block-requires : goal.block-requires
block-requires c = let size = c.requires.open.sized in let within = c.requires.from in omega arith

pub move_over-requires-clause-moved : goal.move_over-requires-clause-moved
move_over-requires-clause-moved c = c.as_slice.ensures.value ∙ c.in-Ok.ensures
