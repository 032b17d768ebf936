use Rattle.nft_rulesets.proofs.Apart.{pairs-apart}
use Rattle.nft_rulesets.proofs.laws.pairs_are_apart.Goals as goal

pub returns : goal.returns
returns c = pairs-apart c.lists_answer_as_walks.ensures
