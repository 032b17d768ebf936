use Rattle.std.proofs.Common.{[]}
use Rattle.script_lines.proofs.Turns.{gives-none}
use Rattle.driver_verify.specs.declared.DriverVerdict.TheVariants as verdict
use Rattle.judge_cli.specs.OwnTexts.{judge_help}
use Rattle.judge_cli.proofs.Carried.{carried-as, helped}
use Rattle.judge_cli.proofs.Told.{told-unread}
use Rattle.judge_cli.proofs.top.carry_out.Goals as goal

pub returns-in-Judge-clause-job : goal.returns-in-Judge-clause-job
returns-in-Judge-clause-job g c =
    let by = c.judge.ensures.judged in
    (by.1, by.2, (by.0, λ which. carried-as _ _ _ _ _ _ _ c.in-Judge.is (by.3, by.4 which)))

pub returns-in-Help-clause-job : goal.returns-in-Help-clause-job
unfolding judge_help
returns-in-Help-clause-job g c =
    ([], gives-none _ _, (verdict.Memory, λ which. helped _ _ _ _ _ c.in-Help.is c.as_bytes.ensures.value (c.write_last.ensures.closes which)))

pub returns-in-Help-clause-read : goal.returns-in-Help-clause-read
returns-in-Help-clause-read g c = told-unread _ _ _ c.write_last.ensures.kind (λ e. cc)

pub returns-in-Help-clause-written : goal.returns-in-Help-clause-written
returns-in-Help-clause-written g c = c.write_last.ensures.written (λ e. cc)
