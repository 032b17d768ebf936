use Rattle.std.proofs.Common.{None, Option, false, sym, subst}
use Rattle.std.specs.Prelude.{IfOk, IfSome, IsNone, option_copied}
use Rattle.trace_check.specs.declared.commit.Coming.{Coming}
use Rattle.trace_check.specs.Coming.{ComesRight, ComesWrong}
use Rattle.trace_check.proofs.ComesFound.{none_comes}
use Rattle.trace_check.proofs.commit.Commit.coming.Goals as goal

pub returns-in-None-clause-right : goal.returns-in-None-clause-right
returns-in-None-clause-right c =
    subst (λ e. ComesRight c.args.self.now c.args.device.now c.args.at (option_copied e) None false) (sym c.in-None.is) (none_comes c.args.self.now c.args.device.now c.args.at)

pub returns-in-Some-clause-right : goal.returns-in-Some-clause-right
returns-in-Some-clause-right c =
    subst (λ e. IfOk c.coming_entry.result (λ (came : Option Coming). IfSome came (λ (coming : Coming). ComesRight c.args.self.now c.args.device.now c.args.at (option_copied e) coming.content coming.puts)))
    (sym c.in-Some.is) c.coming_entry.ensures.right

pub returns-in-Some-clause-wrong : goal.returns-in-Some-clause-wrong
returns-in-Some-clause-wrong c =
    subst (λ e. IfOk c.coming_entry.result (λ (came : Option Coming). IsNone came → ComesWrong c.args.self.now c.args.device.now c.args.at (option_copied e))) (sym c.in-Some.is) c.coming_entry.ensures.wrong
