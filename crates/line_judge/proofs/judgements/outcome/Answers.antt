use Rattle.std.proofs.Common.{subst}
use Rattle.write_judge.specs.Judging.{IsJudgedIn}
use Rattle.line_judge.proofs.judgements.outcome.Goals as goal

pub returns-in-Right : goal.returns-in-Right
returns-in-Right c = λ by asked now cube is. subst (IsJudgedIn by asked now cube) c.in-Right.is is

pub returns-in-Leaks : goal.returns-in-Leaks
returns-in-Leaks c = λ by asked now cube is. subst (IsJudgedIn by asked now cube) c.in-Leaks.is is

pub returns-in-Unsettled : goal.returns-in-Unsettled
returns-in-Unsettled c = λ by asked now cube is. tt
