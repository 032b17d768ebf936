use Rattle.nft_rulesets.proofs.Elements.{elements-together}
use Rattle.nft_rulesets.proofs.laws.elements_hold_together.Goals as goal

pub returns : goal.returns
returns c = elements-together c.lists_answer_as_walks.ensures
