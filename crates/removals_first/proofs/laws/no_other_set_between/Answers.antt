use Rattle.removals_first.proofs.TwoParts.{no-other}
use Rattle.removals_first.proofs.laws.no_other_set_between.Goals as goal

pub returns : goal.returns
returns c = no-other
