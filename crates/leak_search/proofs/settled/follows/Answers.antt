use Rattle.std.proofs.Common.{subst}
use Rattle.driver_trace.specs.Judged.{IsWrong}
use Rattle.leak_search.proofs.settled.follows.Goals as goal

pub returns-in-OldOrNew-clause-right : goal.returns-in-OldOrNew-clause-right
returns-in-OldOrNew-clause-right c = λ is old_answer new_answer old new wrong.
    c.either.ensures.right is old_answer new_answer old new (subst (IsWrong c.args.question.by c.args.gets.now old_answer new_answer) c.in-OldOrNew.is wrong)

pub returns-in-New-clause-right : goal.returns-in-New-clause-right
returns-in-New-clause-right c = λ is old_answer new_answer old new wrong.
    subst (IsWrong c.args.question.by c.args.gets.now old_answer new_answer) c.in-New.is wrong (c.only.ensures.right is new_answer new)

pub returns-in-Old-clause-right : goal.returns-in-Old-clause-right
returns-in-Old-clause-right c = λ is old_answer new_answer old new wrong.
    subst (IsWrong c.args.question.by c.args.gets.now old_answer new_answer) c.in-Old.is wrong (c.only-in-Old.ensures.right is old_answer old)

pub returns-in-Nothing-clause-right : goal.returns-in-Nothing-clause-right
returns-in-Nothing-clause-right c = λ is old_answer new_answer old new wrong.
    subst (IsWrong c.args.question.by c.args.gets.now old_answer new_answer) c.in-Nothing.is wrong
