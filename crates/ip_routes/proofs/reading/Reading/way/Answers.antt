use Rattle.ip_routes.specs.declared.attributes.RouteKind.TheVariants as kind
use Rattle.ip_routes.proofs.Steps.{way-by}
use Rattle.ip_routes.proofs.reading.Reading.way.Goals as goal

pub returns-in-Unicast : goal.returns-in-Unicast
returns-in-Unicast c = way-by c.args.self.now kind.Unicast _ c.in-Unicast.ensures c.hop.ensures

pub returns-in-Blackhole : goal.returns-in-Blackhole
returns-in-Blackhole c = way-by c.args.self.now kind.Blackhole _ c.in-Blackhole.ensures c.as_bytes.ensures.value

pub returns-in-Unreachable : goal.returns-in-Unreachable
returns-in-Unreachable c = way-by c.args.self.now kind.Unreachable _ c.in-Unreachable.ensures c.as_bytes-in-Unreachable.ensures.value

pub returns-in-Prohibit : goal.returns-in-Prohibit
returns-in-Prohibit c = way-by c.args.self.now kind.Prohibit _ c.in-Prohibit.ensures c.as_bytes-in-Prohibit.ensures.value
