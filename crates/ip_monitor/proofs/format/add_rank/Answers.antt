use Rattle.ip_monitor.proofs.Happened.{gone-comment, gone-hops, gone-rank, stood-comment, stood-hops, stood-rank}
use Rattle.ip_monitor.proofs.format.add_rank.Goals as goal

pub returns-then-gone-clause-ranks : goal.returns-then-gone-clause-ranks
returns-then-gone-clause-ranks c = gone-rank _ c.args.hops.now c.args.gone c.args.route.now c.if-gone.true

pub returns-then-gone-clause-hops : goal.returns-then-gone-clause-hops
returns-then-gone-clause-hops c = gone-hops c.args.hops.now c.args.gone c.args.route.now c.if-gone.true

pub returns-then-gone-clause-comment : goal.returns-then-gone-clause-comment
returns-then-gone-clause-comment c = gone-comment _ c.args.hops.now c.args.gone c.args.route.now c.if-gone.true

pub returns-clause-ranks : goal.returns-clause-ranks
returns-clause-ranks c = stood-rank _ _ _ _ c.args.route.now _ _ _ c.if-gone.false c.way.ensures c.metric.ensures c.in_ok-number.ensures.number c.in_ok-push.ensures.items

pub returns-clause-hops : goal.returns-clause-hops
returns-clause-hops c = stood-hops _ _ _ c.args.route.now _ c.if-gone.false c.way.ensures c.in_ok-number.ensures.hops

pub returns-clause-comment : goal.returns-clause-comment
returns-clause-comment c = stood-comment _ _ _ _ c.args.route.now _ c.if-gone.false c.way.ensures c.in_ok-number.ensures.comment
