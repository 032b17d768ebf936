use Rattle.write_judge.proofs.judging.differ_from_both.Goals as goal

pub returns : goal.returns
returns c = λ yes. (c.differ-from_old.ensures c.if-not-from_old.false, c.differ-from_new.ensures yes)
