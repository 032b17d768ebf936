use Rattle.rule_model.proofs.Routes6.{ipv6_chains-short}
use Rattle.rule_model.proofs.laws.ipv6_chains_are_short.Goals as goal

pub returns : goal.returns
returns c = ipv6_chains-short
