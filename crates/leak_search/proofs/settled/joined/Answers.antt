use Rattle.std.proofs.Common.{inl, inr, refl}
use Rattle.leak_search.proofs.settled.joined.Goals as goal

pub returns-in-Right : goal.returns-in-Right
returns-in-Right c = inl refl

pub returns-in-Wrong : goal.returns-in-Wrong
returns-in-Wrong c = inr refl

pub returns-in-Cut : goal.returns-in-Cut
returns-in-Cut c = elim c.right_or.ensures [ inl new ↦ inr new | inr old ↦ inl old ]
