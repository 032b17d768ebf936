use Rattle.trace_check.proofs.OneAnswer.{answers_are_one}
use Rattle.trace_check.proofs.laws.answers_are_one.Goals as goal

pub returns : goal.returns
returns c = answers_are_one
