use Rattle.std.proofs.Common.{sym, ◌∙◌}
use Rattle.judge_cli.proofs.Told.{line-told, room-told, status-kind, written-status}
use Rattle.judge_cli.proofs.top.tell_line.Goals as goal

pub returns-in-Ok-clause-tells : goal.returns-in-Ok-clause-tells
returns-in-Ok-clause-tells g c = λ which.
    line-told c.args.verdict.now _ _ _ _ _ (room-told c.args.verdict.now _ _ c.new-room.ensures.items (c.as_slice.ensures.value ∙ c.in-Ok.ensures)) c.status_of.ensures (c.write_last.ensures.closes which)

pub returns-in-Ok-clause-kind : goal.returns-in-Ok-clause-kind
returns-in-Ok-clause-kind g c = status-kind c.args.verdict.now _ _ c.status_of.ensures c.write_last.ensures.kind

pub returns-in-Ok-clause-written : goal.returns-in-Ok-clause-written
returns-in-Ok-clause-written g c = c.write_last.ensures.written (λ same. written-status c.args.verdict.now (sym c.status_of.ensures ∙ same))
