use Rattle.std.proofs.Common.{◌∙◌, inl, inr, sym}
use Rattle.leak_search.proofs.settled.either.Goals as goal

pub returns-clause-right : goal.returns-clause-right
returns-clause-right c = λ is old_answer new_answer old new wrong. elim c.joined.ensures [
  | inl as_old ↦ wrong.0 (c.only-as_old.ensures.right (sym as_old ∙ is) old_answer old)
  | inr as_new ↦ wrong.1 (c.only-as_new.ensures.right (sym as_new ∙ is) new_answer new)
]

pub returns-clause-cut : goal.returns-clause-cut
returns-clause-cut c = λ lane bit is. elim c.joined.ensures [
  | inl as_old ↦ c.only-as_old.ensures.cut lane bit (sym as_old ∙ is)
  | inr as_new ↦ c.only-as_new.ensures.cut lane bit (sym as_new ∙ is)
]
