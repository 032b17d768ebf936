use Rattle.std.proofs.Common.{refl}
use Rattle.write_judge.proofs.watched.told_by.Goals as goal

pub returns-in-None : goal.returns-in-None
returns-in-None c = rw c.in-None.is refl

pub returns-in-Some : goal.returns-in-Some
returns-in-Some c = rw c.in-Some.is c.told_if_hit.ensures
