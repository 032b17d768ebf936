use Rattle.std.proofs.Common.{inl, inr, refl}
use Rattle.leak_search.proofs.settled.right_or.Goals as goal

pub returns-in-Right : goal.returns-in-Right
returns-in-Right c = inl refl

pub returns-in_default : goal.returns-in_default
returns-in_default c = inr refl
