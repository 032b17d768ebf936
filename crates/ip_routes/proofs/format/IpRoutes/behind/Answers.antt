use Rattle.std.proofs.Common.{ap}
use Rattle.ip_routes.specs.Telling.{behind_of}
use Rattle.ip_routes.proofs.Ways.{behind-by}
use Rattle.ip_routes.proofs.format.IpRoutes.behind.Goals as goal

pub returns-in-None : goal.returns-in-None
returns-in-None c = ap (λ l. behind_of c.args.self.now.version l c.args.route.now) c.in-None.ensures

pub returns-in-Some : goal.returns-in-Some
returns-in-Some c = behind-by c.args.self.now _ _ c.args.route.now _ c.version.ensures c.in-Some.ensures c.behind_said.ensures
