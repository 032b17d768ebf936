use Rattle.ip_monitor.proofs.Happened.{clash-by}
use Rattle.ip_monitor.proofs.format.IpMonitor.clashes.Goals as goal

pub returns : goal.returns
returns c =
    clash-by _ c.args.self.now c.args.route.now _ _ _ _ _ _ _ c.self.view_is c.prefix.ensures c.metric.ensures c.way.ensures c.ranks_of.ensures c.number_at-known.ensures c.number_of.ensures c.is_other.ensures
