use Rattle.write_judge.proofs.judging.told_at.Goals as goal

pub returns-in-Some : goal.returns-in-Some
returns-in-Some c = λ cube. c.in-Some.ensures

pub returns-in-None : goal.returns-in-None
returns-in-None c = λ cube. tt
