-- What a line is by the family's reader, and then by the report.
use Rattle.std.proofs.Common.{◌≡◌, ◌≤◌, Option, Some, IfSome, Result, Ok, Err, IfOk, sym, ap, ◌∙◌, subst}
use Rattle.script_lines.specs.Lines.{numbered}
use Rattle.replay.specs.declared.Act.{Act}
use Rattle.tcam_cli.specs.Readings.{reading}
use Rattle.replay.specs.Running.{IsActOf, setting_of}
use Rattle.tcam_cli.proofs.ToldLines.{told-result, plain-read, plain-result}
use Rattle.tcam_cli.proofs.ShortLines.{long-line}
use Rattle.tcam_cli.proofs.top.read_act.Goals as goal

-- what holds of the act that was read holds of the one that is told
told-same : {T : Type 0} (result : Result (Option Act) T) (P : Act → Type 0) (act : Act) → IfOk result (λ found. found ≡ Some act) → P act → IfOk result (λ found. IfSome found P)
told-same (Ok found) P act same holds = subst (λ one. IfSome one P) (sym same) holds
told-same (Err text) P act same holds = tt

pub returns-in-Ok-Some-clause-ok : goal.returns-in-Ok-Some-clause-ok
returns-in-Ok-Some-clause-ok c =
    let is : reading c.args.run.now.family (numbered c.args.line.now).text ≡ Ok (Some c.in-Ok-Some.act) = rw c.family.ensures at (c.in-Ok-Some.ensures.ok ∙ ap Ok c.in-Ok-Some.field-0-is) in
    rw (is, ← c.is_json.ensures) c.told_act.ensures.ok

pub returns-in-Ok-Some-clause-err : goal.returns-in-Ok-Some-clause-err
returns-in-Ok-Some-clause-err c =
    let is : reading c.args.run.now.family (numbered c.args.line.now).text ≡ Ok (Some c.in-Ok-Some.act) = rw c.family.ensures at (c.in-Ok-Some.ensures.ok ∙ ap Ok c.in-Ok-Some.field-0-is) in
    rw (is, ← c.is_json.ensures) c.told_act.ensures.err

pub returns-in-Ok-Some-clause-act : goal.returns-in-Ok-Some-clause-act
returns-in-Ok-Some-clause-act c =
    told-same c.told_act.result (IsActOf c.args.run.now.family) c.in-Ok-Some.act c.told_act.ensures.same (rw (c.in-Ok-Some.field-0-is, c.family.ensures) at c.in-Ok-Some.ensures.act)

pub returns-in-Ok-Some-clause-told : goal.returns-in-Ok-Some-clause-told
returns-in-Ok-Some-clause-told c =
    let is : reading c.args.run.now.family (numbered c.args.line.now).text ≡ Ok (Some c.in-Ok-Some.act) = rw c.family.ensures at (c.in-Ok-Some.ensures.ok ∙ ap Ok c.in-Ok-Some.field-0-is) in
    told-result (setting_of c.args.run.now) (numbered c.args.line.now).text c.told_act.result (rw (is, ← c.is_json.ensures) c.told_act.ensures.ok)

pub returns-in-Ok-Some-clause-plain : goal.returns-in-Ok-Some-clause-plain
returns-in-Ok-Some-clause-plain c =
    let is : reading c.args.run.now.family (numbered c.args.line.now).text ≡ Ok (Some c.in-Ok-Some.act) = rw c.family.ensures at (c.in-Ok-Some.ensures.ok ∙ ap Ok c.in-Ok-Some.field-0-is) in
    plain-result (λ text. text.now) (setting_of c.args.run.now) (numbered c.args.line.now).text c.told_act.result (rw (is, ← c.is_json.ensures) c.told_act.ensures.err)

pub returns-in-Err-clause-plain : goal.returns-in-Err-clause-plain
returns-in-Err-clause-plain c = plain-read c.args.run.now.family (numbered c.args.line.now).text _ (rw c.family.ensures at c.in-Err.ensures.err)

pub returns-in-Ok-Some-clause-long : goal.returns-in-Ok-Some-clause-long
returns-in-Ok-Some-clause-long c =
    let is : reading c.args.run.now.family (numbered c.args.line.now).text ≡ Ok (Some c.in-Ok-Some.act) = rw c.family.ensures at (c.in-Ok-Some.ensures.ok ∙ ap Ok c.in-Ok-Some.field-0-is) in
    told-same c.told_act.result (λ act. 2 ≤ c.args.line.now.len) c.in-Ok-Some.act c.told_act.ensures.same (long-line c.args.run.now.family c.args.line.now c.in-Ok-Some.act is)
