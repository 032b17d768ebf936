use Rattle.kept_numbers.proofs.Lists.{same-again}
use Rattle.kept_numbers.proofs.laws.same_list_same_numbers.Goals as goal

pub returns : goal.returns
returns c = same-again
