use Rattle.ip_monitor.proofs.Happened.{told-unclear, told-clear}
use Rattle.ip_monitor.proofs.format.IpMonitor.tell.Goals as goal

pub returns-then-is_unclear-clause-told : goal.returns-then-is_unclear-clause-told
returns-then-is_unclear-clause-told c =
    told-unclear c.args.self.now c.args.gone c.args.advertised _ c.args.route.now _ _ _ _ c.is_unclear.ensures c.if-is_unclear.true c.why_unclear.ensures c.text.ensures c.in_ok-put_why.ensures c.requires

pub returns-clause-told : goal.returns-clause-told
returns-clause-told c = told-clear c.args.self.now c.args.gone c.args.advertised _ c.args.route.now _ _ c.is_unclear.ensures c.if-is_unclear.false c.in_ok-change.ensures.changed c.requires
