use Rattle.nft_rulesets.proofs.Comparing.{comparisons-hold}
use Rattle.nft_rulesets.proofs.laws.comparisons_hold_what_they_say.Goals as goal

pub returns : goal.returns
returns c = comparisons-hold c.lists_answer_as_walks.ensures
