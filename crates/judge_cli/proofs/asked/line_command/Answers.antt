use Rattle.std.proofs.Common.{◌≡◌, ◌∙◌, ap, ap₂, true, codes}
use Rattle.clap.specs.Words.{App, app_of, with_subcommand, new_app}
use Rattle.clap.specs.Simple.{app_of_fields, on_top}
use Rattle.judge_cli.specs.CommandLine.{judge_line, judge_top}
use Rattle.judge_cli.proofs.asked.line_command.Goals as goal

abbrev wanting : App → App
wanting = on_top (λ top. record top { subcommand_required = true })

abbrev unhelped : App → App
unhelped = on_top (λ top. record top { disable_help_subcommand = true })

pub returns : goal.returns
unfolding judge_line judge_top
returns c =
    let required : app_of c.subcommand_required.result ≡ wanting (new_app (codes "tcam")) =
    ap app_of_fields c.subcommand_required.ensures ∙ ap wanting c.new.ensures.app in
    let no_help : app_of c.disable_help_subcommand.result ≡ unhelped (wanting (new_app (codes "tcam"))) =
    ap app_of_fields c.disable_help_subcommand.ensures ∙ ap unhelped required in
    c.in_ok-subcommand.ensures.shape c.in_ok-judge_command.ensures.local
    ∙ ap₂ with_subcommand no_help (ap (λ (a : App). a.top) c.in_ok-judge_command.ensures.app)
