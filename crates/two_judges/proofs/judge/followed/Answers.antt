use Rattle.two_judges.proofs.judge.followed.Goals as goal

pub invariant_of-result : goal.invariant_of-result
invariant_of-result c = c.requires.step c.in-Ok.packets c.in-Ok.ensures.taken
