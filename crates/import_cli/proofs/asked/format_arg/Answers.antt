use Rattle.std.proofs.Common.{rules}
use Rattle.import_cli.specs.CommandLine.{format_position}
use Rattle.import_cli.proofs.asked.format_arg.Goals as goal

pub returns-clause-rule : goal.returns-clause-rule
unfolding format_position
returns-clause-rule c = search rules
