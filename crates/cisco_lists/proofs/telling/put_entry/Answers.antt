use Rattle.cisco_lists.proofs.LineSteps.{entry-put}
use Rattle.cisco_lists.proofs.telling.put_entry.Goals as goal

pub returns : goal.returns
returns c = entry-put c.args.entry.now c.args.number _ _ _ _ _ c.is_logged.ensures c.source_ports.ensures.value c.in_ok-put_log.ensures c.in_ok-put_sports.ensures
