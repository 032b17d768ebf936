use Rattle.std.proofs.Common.{Err, [], ap, map, string_bytes}
use Rattle.script_lines.proofs.Turns.{gives-none}
use Rattle.script_lines.specs.Given.{counted}
use Rattle.import_cli.specs.CommandLine.{import_job}
use Rattle.import_cli.proofs.Carried.{misused, told-unread, wanting}
use Rattle.import_cli.proofs.top.run_import.Goals as goal

pub returns-in-Ok-clause-job : goal.returns-in-Ok-clause-job
returns-in-Ok-clause-job g c = rw c.in-Ok.ensures.asked c.carry_out.ensures.job

pub returns-in-Err-Usage-clause-job : goal.returns-in-Err-Usage-clause-job
returns-in-Err-Usage-clause-job g c = ([], gives-none _ _, λ which. misused _ _ _ _ _ _ (c.in-Err-Usage.ensures.usage (ap Err c.in-Err-Usage.field-0-is)) c.as_bytes.ensures.value (c.write_last.ensures.closes which))

pub returns-in-Err-Memory-clause-job : goal.returns-in-Err-Memory-clause-job
returns-in-Err-Memory-clause-job g c = (
  [],
  gives-none _ _,
  λ which. wanting (import_job (map (λ w. string_bytes w) c.args.words.now)) c.args.older.now
      (counted which (g.K.Sink.taken c.args.sink.now) (g.K.Sink.accepted c.args.sink.now)),
)

pub returns-in-Err-Usage-clause-read : goal.returns-in-Err-Usage-clause-read
returns-in-Err-Usage-clause-read g c = told-unread _ _ _ c.write_last.ensures.kind (λ e. cc)

pub returns-in-Err-Usage-clause-written : goal.returns-in-Err-Usage-clause-written
returns-in-Err-Usage-clause-written g c = c.write_last.ensures.written (λ e. cc)
