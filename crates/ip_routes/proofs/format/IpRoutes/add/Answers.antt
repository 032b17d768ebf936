use Rattle.ip_routes.proofs.Ways.{added-by, known-by}
use Rattle.ip_routes.proofs.format.IpRoutes.add.Goals as goal

pub returns-clause-added : goal.returns-clause-added
returns-clause-added c = added-by _ c.args.self.now c.args.route.now _ _ _ _ _ _ c.self.view_is c.way.ensures c.text.ensures c.in_ok-number.ensures.number c.in_ok-number.ensures.comment c.in_ok-put_route.ensures

pub returns-clause-known : goal.returns-clause-known
returns-clause-known c = known-by _ c.args.self.now c.args.route.now _ _ _ _ c.self.view_is c.way.ensures c.prefix.ensures c.metric.ensures c.in_ok-number.ensures.hops
