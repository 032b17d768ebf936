use Rattle.std.proofs.Common.{ap, inl, subst, sym, ◌∙◌, refl, Err}
use Rattle.script_lines.specs.Lines.{numbered}
use Rattle.driver_trace.specs.declared.DriverLine.{DriverLine}
use Rattle.driver_trace.specs.DriverLines.{IsDriverLineOf}
use Rattle.driver_verify.proofs.Judged.{judged-bad, judged-leak, judged-misplaced, judged-taken, judged-unsettled}
use Rattle.driver_verify.proofs.check.judge_line.Goals as goal

pub returns-then-is_blank-clause-passed : goal.returns-then-is_blank-clause-passed
returns-then-is_blank-clause-passed c = inl (sym c.is_blank.ensures ∙ c.if-is_blank.true, refl)

pub returns-in-Err-Bad-clause-ended : goal.returns-in-Err-Bad-clause-ended
returns-in-Err-Bad-clause-ended c =
    judged-bad c.args.judge (numbered c.args.line.now).text c.args.number (sym c.is_blank.ensures ∙ c.if-is_blank.false)
    (subst (λ version. (found : DriverLine) → IsDriverLineOf version (numbered c.args.line.now).text found → ⊥) c.version-version.ensures (c.in-Err-Bad.ensures.bad (ap Err c.in-Err-Bad.field-0-is)))

pub returns-in-Ok-take-clause-passed : goal.returns-in-Ok-take-clause-passed
returns-in-Ok-take-clause-passed c =
    judged-taken c.args.judge (numbered c.args.line.now).text _ _ (sym c.is_blank.ensures ∙ c.if-is_blank.false)
    (subst (λ version. IsDriverLineOf version (numbered c.args.line.now).text c.in-Ok.found) c.version-version.ensures c.in-Ok.ensures.line) c.in-Ok-take.ensures.taken

pub returns-in-Err-Misplaced-clause-ended : goal.returns-in-Err-Misplaced-clause-ended
returns-in-Err-Misplaced-clause-ended c =
    judged-misplaced c.args.judge (numbered c.args.line.now).text c.args.number _ (sym c.is_blank.ensures ∙ c.if-is_blank.false)
    (subst (λ version. IsDriverLineOf version (numbered c.args.line.now).text c.in-Ok.found) c.version-version.ensures c.in-Ok.ensures.line) (rw c.in-Err-Misplaced.field-0-is at c.in-Err-Misplaced.ensures.refused)

pub returns-in-Err-Leaks-clause-ended : goal.returns-in-Err-Leaks-clause-ended
returns-in-Err-Leaks-clause-ended c =
    judged-leak c.args.judge (numbered c.args.line.now).text c.args.number c.version-version.result _ _ (sym c.is_blank.ensures ∙ c.if-is_blank.false)
    (subst (λ version. IsDriverLineOf version (numbered c.args.line.now).text c.in-Ok.found) c.version-version.ensures c.in-Ok.ensures.line) (rw c.in-Err-Leaks.field-0-is at c.in-Err-Leaks.ensures.refused)

pub returns-in-Err-NotJudged-clause-ended : goal.returns-in-Err-NotJudged-clause-ended
returns-in-Err-NotJudged-clause-ended c =
    judged-unsettled c.args.judge (numbered c.args.line.now).text c.args.number _ (sym c.is_blank.ensures ∙ c.if-is_blank.false)
    (subst (λ version. IsDriverLineOf version (numbered c.args.line.now).text c.in-Ok.found) c.version-version.ensures c.in-Ok.ensures.line) (rw c.in-Err-NotJudged.field-0-is at c.in-Err-NotJudged.ensures.refused)
