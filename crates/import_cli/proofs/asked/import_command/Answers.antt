use Rattle.std.proofs.Common.{◌∙◌, ap₂}
use Rattle.clap.specs.Words.{with_rule}
use Rattle.import_cli.specs.CommandLine.{import_app}
use Rattle.import_cli.proofs.asked.import_command.Goals as goal

pub returns-clause-app : goal.returns-clause-app
unfolding import_app
returns-clause-app c =
    let format = c.in_ok-arg.ensures.shape c.format_arg.ensures.global ∙ ap₂ with_rule c.new.ensures.app c.format_arg.ensures.rule in
    let version = c.in_ok-arg-2.ensures.shape c.version_arg.ensures.global ∙ ap₂ with_rule format c.version_arg.ensures.rule in
    let leave_out = c.in_ok-arg-3.ensures.shape c.leave_out_arg.ensures.global ∙ ap₂ with_rule version c.leave_out_arg.ensures.rule in
    let list = c.in_ok-arg-4.ensures.shape c.list_arg.ensures.global ∙ ap₂ with_rule leave_out c.list_arg.ensures.rule in
    let chain = c.in_ok-arg-5.ensures.shape c.chain_arg.ensures.global ∙ ap₂ with_rule list c.chain_arg.ensures.rule in
    let face = c.in_ok-arg-6.ensures.shape c.in_arg.ensures.global ∙ ap₂ with_rule chain c.in_arg.ensures.rule in
    c.in_ok-arg-7.ensures.shape c.since_arg.ensures.global ∙ ap₂ with_rule face c.since_arg.ensures.rule
