use Rattle.tcam_cli.specs.CommandLine.{verify_app}
use Rattle.tcam_cli.proofs.command_line.verify_command.Goals as goal

pub returns-clause-app : goal.returns-clause-app
unfolding verify_app
returns-clause-app c = c.new.ensures.app
