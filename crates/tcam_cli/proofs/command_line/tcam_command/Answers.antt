use Rattle.std.proofs.Common.{◌≡◌, ◌∙◌, ap, ap₂, true, codes}
use Rattle.clap.specs.Words.{App, app_of, with_subcommand, new_app}
use Rattle.clap.specs.Simple.{app_of_fields, on_top}
use Rattle.tcam_cli.specs.CommandLine.{route_app, tcam_app, tcam_top}
use Rattle.tcam_cli.proofs.command_line.tcam_command.Goals as goal

abbrev versioned : App → App
versioned = on_top (λ top. record top { has_version = true })

abbrev wanting : App → App
wanting = on_top (λ top. record top { subcommand_required = true })

abbrev unhelped : App → App
unhelped = on_top (λ top. record top { disable_help_subcommand = true })

pub returns : goal.returns
unfolding tcam_app tcam_top
returns c =
    let version : app_of c.version.result ≡ versioned (new_app (codes "tcam")) =
    ap app_of_fields c.version.ensures ∙ ap versioned c.new.ensures.app in
    let required : app_of c.subcommand_required.result ≡ wanting (versioned (new_app (codes "tcam"))) =
    ap app_of_fields c.subcommand_required.ensures ∙ ap wanting version in
    let no_help : app_of c.disable_help_subcommand.result ≡ unhelped (wanting (versioned (new_app (codes "tcam")))) =
    ap app_of_fields c.disable_help_subcommand.ensures ∙ ap unhelped required in
    let routes : app_of c.in_ok-subcommand.field-0 ≡ with_subcommand (unhelped (wanting (versioned (new_app (codes "tcam"))))) (route_app (codes "route")).top =
    c.in_ok-subcommand.ensures.shape c.in_ok-route_command.ensures.local
    ∙ ap₂ with_subcommand no_help (ap (λ (a : App). a.top) c.in_ok-route_command.ensures.app) in
    let lists = c.in_ok-subcommand-2.ensures.shape c.in_ok-acl_command.ensures.local
    ∙ ap₂ with_subcommand routes (ap (λ (a : App). a.top) c.in_ok-acl_command.ensures.app) in
    let routes6 = c.in_ok-subcommand-3.ensures.shape c.in_ok-route_command-2.ensures.local
    ∙ ap₂ with_subcommand lists (ap (λ (a : App). a.top) c.in_ok-route_command-2.ensures.app) in
    let lists6 = c.in_ok-subcommand-4.ensures.shape c.in_ok-acl_command-2.ensures.local
    ∙ ap₂ with_subcommand routes6 (ap (λ (a : App). a.top) c.in_ok-acl_command-2.ensures.app) in
    let made = c.in_ok-subcommand-5.ensures.shape c.in_ok-gen_command.ensures.local
    ∙ ap₂ with_subcommand lists6 (ap (λ (a : App). a.top) c.in_ok-gen_command.ensures.app) in
    c.in_ok-subcommand-6.ensures.shape c.verify_command.ensures.local
    ∙ ap₂ with_subcommand made (ap (λ (a : App). a.top) c.verify_command.ensures.app)
