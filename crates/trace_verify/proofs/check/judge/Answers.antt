use Rattle.std.proofs.Common.{inl, ap, subst, sym, ◌∙◌, refl, Err}
use Rattle.script_lines.specs.Lines.{numbered}
use Rattle.trace_file.specs.declared.TraceLine.{TraceLine}
use Rattle.trace_file.specs.Lines.{IsLineOf}
use Rattle.trace_verify.proofs.Judged.{judged-bad, judged-misplaced, judged-unordered, judged-taken}
use Rattle.trace_verify.proofs.check.judge.Goals as goal

pub returns-then-is_blank-clause-passed : goal.returns-then-is_blank-clause-passed
returns-then-is_blank-clause-passed c = inl (sym c.is_blank.ensures ∙ c.if-is_blank.true, refl)

pub returns-in-Err-Bad-clause-ended : goal.returns-in-Err-Bad-clause-ended
returns-in-Err-Bad-clause-ended c =
    judged-bad c.args.checker (numbered c.args.line.now).text c.args.number (sym c.is_blank.ensures ∙ c.if-is_blank.false)
    (subst (λ version. (found : TraceLine) → IsLineOf version (numbered c.args.line.now).text found → ⊥) c.version.ensures (c.in-Err-Bad.ensures.bad (ap Err c.in-Err-Bad.field-0-is)))

pub returns-in-Ok-take-clause-passed : goal.returns-in-Ok-take-clause-passed
returns-in-Ok-take-clause-passed c = judged-taken c.args.checker (numbered c.args.line.now).text _ _ (sym c.is_blank.ensures ∙ c.if-is_blank.false) (subst (λ version. IsLineOf version (numbered c.args.line.now).text c.in-Ok.found) c.version.ensures c.in-Ok.ensures.line) c.in-Ok-take.ensures.taken

pub returns-in-Err-Misplaced-clause-ended : goal.returns-in-Err-Misplaced-clause-ended
returns-in-Err-Misplaced-clause-ended c =
    judged-misplaced c.args.checker (numbered c.args.line.now).text c.args.number _ (sym c.is_blank.ensures ∙ c.if-is_blank.false) (subst (λ version. IsLineOf version (numbered c.args.line.now).text c.in-Ok.found) c.version.ensures c.in-Ok.ensures.line) (rw c.in-Err-Misplaced.field-0-is at c.in-Err-Misplaced.ensures.refused)

pub returns-in-Err-Unordered-clause-ended : goal.returns-in-Err-Unordered-clause-ended
returns-in-Err-Unordered-clause-ended c =
    judged-unordered c.args.checker (numbered c.args.line.now).text c.args.number _ (sym c.is_blank.ensures ∙ c.if-is_blank.false) (subst (λ version. IsLineOf version (numbered c.args.line.now).text c.in-Ok.found) c.version.ensures c.in-Ok.ensures.line) (rw c.in-Err-Unordered.field-0-is at c.in-Err-Unordered.ensures.refused)
