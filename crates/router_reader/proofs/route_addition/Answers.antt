-- What is added is a route of its version.
use Rattle.std.proofs.Common.{◌≡◌, refl}
use Rattle.rule_model.specs.declared.IpVersion.{IpVersion}
use Rattle.rule_model.specs.declared.IpVersion.TheVariants.{V4, V6}
use Rattle.rule_model.specs.declared.Rule.{Rule}
use Rattle.rule_model.specs.Routes.{IsIpv4Route}
use Rattle.rule_model.specs.Routes6.{IsIpv6Route}
use Rattle.rule_store.specs.declared.Command.TheVariants.{Add}
use Rattle.router.specs.declared.Side.TheVariants as side
use Rattle.router.specs.declared.RouterAct.TheVariants.{Change}
use Rattle.router.specs.Routing.{IsActOf}
use Rattle.router_reader.proofs.route_addition.Goals as goal

by-version : (version : IpVersion) (rule : Rule) → (version ≡ V4 → IsIpv4Route rule) → (version ≡ V6 → IsIpv6Route rule) → IsActOf version (Change side.Routes (Add rule))
by-version V4 rule four six = (four refl, tt)
by-version V6 rule four six = (six refl, tt)

pub returns-clause-act : goal.returns-clause-act
returns-clause-act c = by-version c.args.version c.route_of.result c.route_of.ensures.ipv4 c.route_of.ensures.ipv6
