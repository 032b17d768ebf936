use Rattle.std.proofs.Common.{rules}
use Rattle.tcam_cli.specs.CommandLine.{removals_option}
use Rattle.tcam_cli.proofs.command_line.removals_arg.Goals as goal

pub returns-clause-rule : goal.returns-clause-rule
unfolding removals_option
returns-clause-rule c = search rules
