use Rattle.std.proofs.Common.{arith, sym, ◌∙◌}
use Rattle.std.proofs.lemmas.Bool.{eqb-false}
use Rattle.line_judge.proofs.MeantAlone.{unnamed_all, unnamed_more}
use Rattle.line_judge.proofs.commands.is_unnamed.Goals as goal

pub loop-i-preserved : goal.loop-i-preserved
loop-i-preserved c =
    unnamed_more c.args.priority c.args.batch.now c.loop-i.i c.at-command.result c.at-command.ensures
    (λ same. eqb-false c.priority.result c.args.priority (sym c.eq.ensures ∙ c.if-eq.false) (c.priority.ensures ∙ same)) c.loop-i.invariant

pub returns : goal.returns
returns c = λ told. unnamed_all c.args.priority c.args.batch.now c.loop-i.i (omega arith) c.loop-i.invariant
