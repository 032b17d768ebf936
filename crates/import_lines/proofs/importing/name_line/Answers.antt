use Rattle.import_lines.proofs.Rounds.{err-other}
use Rattle.import_lines.proofs.Tells.{names-pass, names-stop, err-counted}
use Rattle.import_lines.proofs.importing.name_line.Goals as goal

pub returns-then-leave_out-clause-names : goal.returns-then-leave_out-clause-names
returns-then-leave_out-clause-names g c = λ which. names-pass _ _ _ _ _ _ c.if-leave_out.true (c.pass.ensures.passes which)

pub returns-clause-names : goal.returns-clause-names
returns-clause-names g c = λ which. names-stop _ _ _ _ _ _ c.if-leave_out.false (c.stop.ensures.stops which)

pub returns-clause-kind : goal.returns-clause-kind
returns-clause-kind g c = err-other c.stop.result c.stop.ensures.kind

pub returns-clause-written : goal.returns-clause-written
returns-clause-written g c = err-counted _ _ _ _ c.stop.ensures.written
