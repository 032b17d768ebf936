use Rattle.std.proofs.Common.{subst, sym}
use Rattle.driver_trace.specs.Judged.{IsWrong}
use Rattle.write_judge.proofs.judging.is_wrong.Goals as goal

pub returns-in-OldOrNew : goal.returns-in-OldOrNew
returns-in-OldOrNew c = λ yes. subst (IsWrong c.args.question.by c.args.gets.now c.args.old.now c.args.new.now) (sym c.in-OldOrNew.is) (c.differ_from_both.ensures yes)

pub returns-in-New : goal.returns-in-New
returns-in-New c = λ yes. subst (IsWrong c.args.question.by c.args.gets.now c.args.old.now c.args.new.now) (sym c.in-New.is) (c.differ.ensures yes)

pub returns-in-Old : goal.returns-in-Old
returns-in-Old c = λ yes. subst (IsWrong c.args.question.by c.args.gets.now c.args.old.now c.args.new.now) (sym c.in-Old.is) (c.differ-in-Old.ensures yes)
