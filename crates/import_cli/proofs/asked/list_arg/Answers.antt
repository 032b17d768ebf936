use Rattle.std.proofs.Common.{rules}
use Rattle.import_cli.specs.CommandLine.{list_option}
use Rattle.import_cli.proofs.asked.list_arg.Goals as goal

pub returns-clause-rule : goal.returns-clause-rule
unfolding list_option
returns-clause-rule c = search rules
