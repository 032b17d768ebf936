use Rattle.std.proofs.Common.{rules}
use Rattle.option_words.specs.Options.{trace_flag}
use Rattle.option_words.proofs.trace_arg.Goals as goal

pub returns-clause-rule : goal.returns-clause-rule
unfolding trace_flag
returns-clause-rule c = search rules
