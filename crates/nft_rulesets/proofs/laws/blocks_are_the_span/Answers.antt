use Rattle.nft_rulesets.proofs.Holding.{blocks-are}
use Rattle.nft_rulesets.proofs.laws.blocks_are_the_span.Goals as goal

pub returns : goal.returns
returns c = blocks-are
