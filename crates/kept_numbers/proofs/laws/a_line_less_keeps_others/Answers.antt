use Rattle.kept_numbers.proofs.Places.{line-less}
use Rattle.kept_numbers.proofs.laws.a_line_less_keeps_others.Goals as goal

pub returns : goal.returns
returns c = line-less
