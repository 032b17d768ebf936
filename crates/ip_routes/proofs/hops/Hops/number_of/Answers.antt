use Rattle.std.proofs.Common.{Some, None}
use Rattle.ip_routes.proofs.Ways.{way-place}
use Rattle.ip_routes.proofs.hops.Hops.number_of.Goals as goal

pub returns-in-Some : goal.returns-in-Some
returns-in-Some c = way-place c.args.way.now _ _ (Some c.in-Some.place) c.self.view_is c.in-Some.ensures.index

pub returns-in-None : goal.returns-in-None
returns-in-None c = way-place c.args.way.now _ _ None c.self.view_is c.in-None.ensures.index
