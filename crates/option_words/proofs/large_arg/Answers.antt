use Rattle.std.proofs.Common.{rules}
use Rattle.option_words.specs.Options.{large_flag}
use Rattle.option_words.proofs.large_arg.Goals as goal

pub returns-clause-rule : goal.returns-clause-rule
unfolding large_flag
returns-clause-rule c = search rules
