use Rattle.kept_numbers.proofs.Places.{kept-are-older}
use Rattle.kept_numbers.proofs.laws.kept_lines_are_older_ones.Goals as goal

pub returns : goal.returns
returns c = kept-are-older
