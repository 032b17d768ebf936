use Rattle.rule_model.proofs.Routes6.{ipv6_routes-nested}
use Rattle.rule_model.proofs.laws.ipv6_routes_are_nested.Goals as goal

pub returns : goal.returns
returns c = ipv6_routes-nested
