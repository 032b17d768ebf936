use Rattle.rule_model.proofs.Routes.{ipv4_chains-short}
use Rattle.rule_model.proofs.laws.ipv4_chains_are_short.Goals as goal

pub returns : goal.returns
returns c = ipv4_chains-short
