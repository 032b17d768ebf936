use Rattle.std.proofs.Common.{rules}
use Rattle.option_words.specs.Options.{ranges_option}
use Rattle.option_words.proofs.ranges_arg.Goals as goal

pub returns-clause-rule : goal.returns-clause-rule
unfolding ranges_option
returns-clause-rule c = search rules
