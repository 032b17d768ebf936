use Rattle.std.proofs.Common.{[]}
use Rattle.script_lines.proofs.Turns.{gives-none}
use Rattle.import_cli.proofs.Carried.{carries-entries, none-told}
use Rattle.import_cli.proofs.top.import_named.Goals as goal

pub returns-in-Ok-clause-job : goal.returns-in-Ok-clause-job
returns-in-Ok-clause-job g c =
    let by = c.import.ensures.imports in
    (by.0, by.1, λ which. carries-entries _ _ _ _ _ _ _ c.in-Ok.ensures (by.2 which))

pub returns-in-Err-clause-job : goal.returns-in-Err-clause-job
returns-in-Err-clause-job g c = ([], gives-none _ _, λ which. none-told _ _ _ _)
