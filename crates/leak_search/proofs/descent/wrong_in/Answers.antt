use Rattle.leak_search.proofs.descent.wrong_in.Goals as goal

pub returns-in-None : goal.returns-in-None
returns-in-None c = λ is. cc
