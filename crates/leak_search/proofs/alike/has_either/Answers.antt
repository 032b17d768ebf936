use Rattle.std.proofs.Common.{inl, inr}
use Rattle.leak_search.proofs.alike.has_either.Goals as goal

pub returns-then-has_new : goal.returns-then-has_new
returns-then-has_new c = λ yes word. inr (c.has_new.ensures c.if-has_new.true word)

pub returns : goal.returns
returns c = λ yes word. inl (c.has_old.ensures yes word)
