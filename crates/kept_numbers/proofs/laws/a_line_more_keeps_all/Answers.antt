use Rattle.kept_numbers.proofs.Places.{line-more}
use Rattle.kept_numbers.proofs.laws.a_line_more_keeps_all.Goals as goal

pub returns : goal.returns
returns c = line-more
