use Rattle.kept_numbers.proofs.Lists.{new-by-tens}
use Rattle.kept_numbers.proofs.laws.new_lists_are_by_tens.Goals as goal

pub returns : goal.returns
returns c = new-by-tens
