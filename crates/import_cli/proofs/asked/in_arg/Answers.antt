use Rattle.std.proofs.Common.{rules}
use Rattle.import_cli.specs.CommandLine.{in_option}
use Rattle.import_cli.proofs.asked.in_arg.Goals as goal

pub returns-clause-rule : goal.returns-clause-rule
unfolding in_option
returns-clause-rule c = search rules
