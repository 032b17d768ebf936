use Rattle.std.proofs.Common.{[]}
use Rattle.script_lines.proofs.Turns.{gives-none}
use Rattle.script_lines.specs.Given.{counted}
use Rattle.import_cli.specs.CommandLine.{Imports}
use Rattle.import_cli.specs.declared.asked.Format.TheVariants.{Iptables}
use Rattle.import_cli.proofs.Carried.{carries-chains, since-refused, unread, wanting}
use Rattle.import_cli.proofs.top.import_save.Goals as goal

pub returns-in-Ok-Ok-clause-job : goal.returns-in-Ok-Ok-clause-job
returns-in-Ok-Ok-clause-job g c =
    let by = c.import.ensures.imports in
    let found = rw c.in-Ok-Ok.field-0-is at c.in-Ok-Ok.ensures in
    (by.0, by.1, λ which. carries-chains _ _ _ _ c.args.older.now _ _ _ _ _ _ found c.new-chains.ensures (by.2 which))

pub returns-in-Ok-Err-clause-job : goal.returns-in-Ok-Err-clause-job
returns-in-Ok-Err-clause-job g c =
    let found = rw c.in-Ok-Err.field-0-is at c.in-Ok-Err.ensures in
    ([], gives-none _ _, λ which. since-refused _ _ _ _ _ _ found (c.refuse_older.ensures.names which))

pub returns-in-Ok-Err-clause-read : goal.returns-in-Ok-Err-clause-read
returns-in-Ok-Err-clause-read g c = unread _ _ c.refuse_older.ensures.kind

pub returns-in-Err-clause-job : goal.returns-in-Err-clause-job
returns-in-Err-clause-job g c = (
  [],
  gives-none _ _,
  λ which. wanting (Imports (Iptables c.args.hook c.args.face) c.args.version c.args.leave_out) c.args.older.now
      (counted which (g.K.Sink.taken c.args.sink.now) (g.K.Sink.accepted c.args.sink.now)),
)
