use Rattle.rule_model.proofs.Routes.{ipv4_routes-nested}
use Rattle.rule_model.proofs.laws.ipv4_routes_are_nested.Goals as goal

pub returns : goal.returns
returns c = ipv4_routes-nested
