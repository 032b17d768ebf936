-- The line is that of its words, where one is wanted, and else nothing is written.
use Rattle.std.proofs.Common.{Result, Ok, Err, OnErr, refl, arith}
use Rattle.std.proofs.KnownBytes.{Appends-nil}
use Rattle.router.proofs.report.tell_action.Goals as goal

on_err : {T E : Type 0} (result : Result T E) (Fact : Type 0) → Fact → OnErr result Fact
on_err (Ok done) Fact is = tt
on_err (Err why) Fact is = is

pub returns-then-telling-clause-line : goal.returns-then-telling-clause-line
returns-then-telling-clause-line g c = rw c.if-telling.true (rw c.action.ensures.text at c.write.ensures)

pub returns-then-telling-clause-wanted : goal.returns-then-telling-clause-wanted
returns-then-telling-clause-wanted g c = on_err c.write.result _ c.if-telling.true

pub returns-else-telling-clause-line : goal.returns-else-telling-clause-line
returns-else-telling-clause-line g c =
    rw c.if-telling.false (record {
      whole = λ which. Appends-nil _;
      part = λ which. tt;
      told = λ some. some;
      cause = record { later = omega arith; once = omega arith; failed = tt; stayed = refl };
    })
