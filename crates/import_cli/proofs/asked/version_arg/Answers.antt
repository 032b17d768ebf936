use Rattle.std.proofs.Common.{rules}
use Rattle.import_cli.specs.CommandLine.{version_option}
use Rattle.import_cli.proofs.asked.version_arg.Goals as goal

pub returns-clause-rule : goal.returns-clause-rule
unfolding version_option
returns-clause-rule c = search rules
