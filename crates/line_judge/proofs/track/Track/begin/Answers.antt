use Rattle.std.proofs.Common.{◌∙◌}
use Rattle.line_judge.proofs.track.Track.begin.Goals as goal

pub begin_over-requires-clause-none : goal.begin_over-requires-clause-none
begin_over-requires-clause-none c = c.in-Ok.ensures ∙ c.new-none.ensures.rules
