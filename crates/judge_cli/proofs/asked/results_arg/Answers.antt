use Rattle.std.proofs.Common.{rules}
use Rattle.judge_cli.specs.CommandLine.{results_flag}
use Rattle.judge_cli.proofs.asked.results_arg.Goals as goal

pub returns-clause-rule : goal.returns-clause-rule
unfolding results_flag
returns-clause-rule c = search rules
