use Rattle.std.proofs.Common.{rules}
use Rattle.tcam_cli.specs.CommandLine.{json_flag}
use Rattle.tcam_cli.proofs.command_line.json_arg.Goals as goal

pub returns-clause-rule : goal.returns-clause-rule
unfolding json_flag
returns-clause-rule c = search rules
