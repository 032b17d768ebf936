use Rattle.std.proofs.Common.{rules}
use Rattle.tcam_cli.specs.CommandLine.{names_flag}
use Rattle.tcam_cli.proofs.command_line.names_arg.Goals as goal

pub returns-clause-rule : goal.returns-clause-rule
unfolding names_flag
returns-clause-rule c = search rules
