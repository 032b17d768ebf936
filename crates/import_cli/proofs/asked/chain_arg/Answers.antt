use Rattle.std.proofs.Common.{rules}
use Rattle.import_cli.specs.CommandLine.{chain_option}
use Rattle.import_cli.proofs.asked.chain_arg.Goals as goal

pub returns-clause-rule : goal.returns-clause-rule
unfolding chain_option
returns-clause-rule c = search rules
