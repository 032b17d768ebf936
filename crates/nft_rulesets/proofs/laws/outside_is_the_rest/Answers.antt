use Rattle.nft_rulesets.proofs.Holding.{outside-is}
use Rattle.nft_rulesets.proofs.laws.outside_is_the_rest.Goals as goal

pub returns : goal.returns
returns c = outside-is
