use Rattle.std.proofs.Common.{◌∙◌, ap₂}
use Rattle.clap.specs.Words.{with_rule}
use Rattle.judge_cli.specs.CommandLine.{judge_app}
use Rattle.judge_cli.proofs.asked.judge_command.Goals as goal

pub returns-clause-app : goal.returns-clause-app
unfolding judge_app
returns-clause-app c = c.in_ok-arg.ensures.shape c.results_arg.ensures.global ∙ ap₂ with_rule c.new.ensures.app c.results_arg.ensures.rule
