use Rattle.line_words.proofs.Longest.{shortens_the_longest}
use Rattle.line_words.proofs.laws.shortens_the_longest.Goals as goal

pub returns : goal.returns
returns c = shortens_the_longest
