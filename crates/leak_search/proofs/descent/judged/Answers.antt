use Rattle.leak_search.proofs.Settling.{cut_within}
use Rattle.leak_search.proofs.descent.judged.Goals as goal

pub returns-then-has_a_set-clause-right : goal.returns-then-has_a_set-clause-right
returns-then-has_a_set-clause-right c = λ is word is_word within. c.has_a_set.ensures c.if-has_a_set.true word

pub returns-in-Some-clause-cut : goal.returns-in-Some-clause-cut
returns-in-Some-clause-cut c = λ lane bit same. cut_within _ _ lane bit same c.in-Some.ensures
