use Rattle.std.proofs.Common.{rules}
use Rattle.import_cli.specs.CommandLine.{leave_out_flag}
use Rattle.import_cli.proofs.asked.leave_out_arg.Goals as goal

pub returns-clause-rule : goal.returns-clause-rule
unfolding leave_out_flag
returns-clause-rule c = search rules
