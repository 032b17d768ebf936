use Rattle.std.proofs.Common.{◌∙◌, ap}
use Rattle.ip_monitor.specs.Ranks.{least_of}
use Rattle.ip_monitor.proofs.Happened.{changed-by, known-by, ranks-are}
use Rattle.ip_monitor.proofs.format.IpMonitor.change.Goals as goal

pub returns-clause-changed : goal.returns-clause-changed
returns-clause-changed c =
    changed-by _ c.args.self.now c.args.gone c.args.route.now _ _ _ _ _ _ c.self.view_is c.text.ensures
    (ranks-are (record { version = c.self.inside.version; hops = c.self.inside.hops; standings = c.self.inside.standings }) c.args.gone c.args.route.now _ _ _ _ _ c.prefix.ensures c.metric.ensures c.ranks_of.ensures c.in_ok-ranks.ensures c.in_ok-add_rank.ensures.ranks)
    (c.least_of.ensures ∙ ap least_of c.as_slice.ensures.value) c.in_ok-add_rank.ensures.comment c.in_ok-put_answer.ensures

pub returns-clause-known : goal.returns-clause-known
returns-clause-known c =
    known-by
    (record { version = c.self.inside.version; hops = c.self.inside.hops; standings = c.self.inside.standings })
    c.args.self.now c.args.gone c.args.route.now _ _ _ _ c.self.view_is c.prefix-2.ensures
    (ranks-are (record { version = c.self.inside.version; hops = c.self.inside.hops; standings = c.self.inside.standings }) c.args.gone c.args.route.now _ _ _ _ _ c.prefix.ensures c.metric.ensures c.ranks_of.ensures c.in_ok-ranks.ensures c.in_ok-add_rank.ensures.ranks)
    c.in_ok-add_rank.ensures.hops c.in_ok-set.ensures
