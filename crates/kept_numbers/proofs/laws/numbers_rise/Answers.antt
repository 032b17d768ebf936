use Rattle.kept_numbers.proofs.Lists.{numbers-rise}
use Rattle.kept_numbers.proofs.laws.numbers_rise.Goals as goal

pub returns : goal.returns
returns c = numbers-rise
