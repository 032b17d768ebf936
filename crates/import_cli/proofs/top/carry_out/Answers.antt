use Rattle.std.proofs.Common.{[]}
use Rattle.script_lines.proofs.Turns.{gives-none}
use Rattle.import_cli.specs.OwnTexts.{import_help}
use Rattle.import_cli.proofs.Carried.{carried-as, helped, told-unread}
use Rattle.import_cli.proofs.top.carry_out.Goals as goal

pub returns-in-Import-clause-job : goal.returns-in-Import-clause-job
returns-in-Import-clause-job g c =
    let by = c.carry_import.ensures.job in
    (by.0, by.1, λ which. carried-as _ _ _ _ _ _ _ c.in-Import.is (by.2 which))

pub returns-in-Help-clause-job : goal.returns-in-Help-clause-job
unfolding import_help
returns-in-Help-clause-job g c = ([], gives-none _ _, λ which. helped _ _ _ _ _ _ c.in-Help.is c.as_bytes.ensures.value (c.write_last.ensures.closes which))

pub returns-in-Help-clause-read : goal.returns-in-Help-clause-read
returns-in-Help-clause-read g c = told-unread _ _ _ c.write_last.ensures.kind (λ e. cc)

pub returns-in-Help-clause-written : goal.returns-in-Help-clause-written
returns-in-Help-clause-written g c = c.write_last.ensures.written (λ e. cc)
