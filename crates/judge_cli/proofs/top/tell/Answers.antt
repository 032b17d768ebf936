use Rattle.judge_cli.proofs.Told.{not-read, tells-line, tells-memory, tells-read}
use Rattle.judge_cli.proofs.top.tell.Goals as goal

pub returns-in-Read-clause-tells : goal.returns-in-Read-clause-tells
returns-in-Read-clause-tells g c = λ which. tells-read c.args.verdict.now _ c.in-Read.is

pub returns-in-Memory-clause-tells : goal.returns-in-Memory-clause-tells
returns-in-Memory-clause-tells g c = λ which. tells-memory c.args.verdict.now _ c.in-Memory.is

pub returns-in_default-clause-tells : goal.returns-in_default-clause-tells
returns-in_default-clause-tells g c = λ which.
    tells-line c.args.verdict.now c.tell_line.result _ _ c.in_default.not-Read c.in_default.not-Memory (c.tell_line.ensures.tells which)

pub returns-in_default-clause-read : goal.returns-in_default-clause-read
returns-in_default-clause-read g c = λ read. absurd (c.in_default.not-Read read)

pub returns-in_default-clause-unread : goal.returns-in_default-clause-unread
returns-in_default-clause-unread g c = not-read c.args.verdict.now c.tell_line.result c.tell_line.ensures.kind
