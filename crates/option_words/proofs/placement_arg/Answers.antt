use Rattle.std.proofs.Common.{rules}
use Rattle.option_words.specs.Options.{placement_option}
use Rattle.option_words.proofs.placement_arg.Goals as goal

pub returns-clause-rule : goal.returns-clause-rule
unfolding placement_option
returns-clause-rule c = search rules
