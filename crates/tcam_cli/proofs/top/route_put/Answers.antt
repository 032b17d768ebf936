-- What is to stand is a route of its version.
use Rattle.std.proofs.Common.{◌≡◌, refl}
use Rattle.rule_model.specs.declared.IpVersion.{IpVersion}
use Rattle.rule_model.specs.declared.IpVersion.TheVariants.{V4, V6}
use Rattle.rule_model.specs.declared.Rule.{Rule}
use Rattle.rule_model.specs.Routes.{IsIpv4Route}
use Rattle.rule_model.specs.Routes6.{IsIpv6Route}
use Rattle.settled_changes.specs.declared.Request.TheVariants.{Put}
use Rattle.replay.specs.declared.Act.TheVariants.{Ask}
use Rattle.replay.specs.Running.{IsActOf, routes_of}
use Rattle.tcam_cli.proofs.top.route_put.Goals as goal

by-version : (version : IpVersion) (rule : Rule) → (version ≡ V4 → IsIpv4Route rule) → (version ≡ V6 → IsIpv6Route rule) → IsActOf (routes_of version) (Ask (Put rule))
by-version V4 rule four six = (four refl, tt)
by-version V6 rule four six = (six refl, tt)

pub returns-clause-route : goal.returns-clause-route
returns-clause-route c = by-version c.args.version c.route_of.result c.route_of.ensures.ipv4 c.route_of.ensures.ipv6
