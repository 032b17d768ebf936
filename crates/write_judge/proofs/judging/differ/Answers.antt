use Rattle.std.proofs.lemmas.Bool.{both_ways}
use Rattle.write_judge.proofs.judging.differ.Goals as goal

pub returns : goal.returns
returns c = λ yes same. both_ways c.agree.result c.if-agree.false (c.agree.ensures.1 same)
