use Rattle.std.proofs.Common.{◌∙◌, arith}
use Rattle.line_judge.proofs.track.Track.move_over.Goals as goal

pub block-requires : goal.block-requires
block-requires c = let size = c.requires.open.sized in let within = c.requires.to in omega arith

pub move_both-requires-clause-gone : goal.move_both-requires-clause-gone
move_both-requires-clause-gone c = c.as_slice.ensures.value ∙ c.in-Ok.ensures
