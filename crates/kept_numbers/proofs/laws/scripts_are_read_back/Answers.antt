use Rattle.kept_numbers.proofs.Back.{read-back}
use Rattle.kept_numbers.proofs.laws.scripts_are_read_back.Goals as goal

pub returns : goal.returns
returns c = read-back
