use Rattle.nft_rulesets.proofs.Elements.{parts-together}
use Rattle.nft_rulesets.proofs.laws.parts_hold_together.Goals as goal

pub returns : goal.returns
returns c = parts-together c.lists_answer_as_walks.ensures
