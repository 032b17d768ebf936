use Rattle.std.proofs.Common.{◌∙◌, ap₂}
use Rattle.clap.specs.Words.{with_rule}
use Rattle.tcam_cli.specs.CommandLine.{gen_app}
use Rattle.tcam_cli.proofs.command_line.gen_command.Goals as goal

pub returns-clause-app : goal.returns-clause-app
unfolding gen_app
returns-clause-app c =
    let seed = c.in_ok-arg.ensures.shape c.number_arg.ensures.global ∙ ap₂ with_rule c.new.ensures.app c.number_arg.ensures.rule in
    let rules = c.in_ok-arg-2.ensures.shape c.number_arg-2.ensures.global ∙ ap₂ with_rule seed c.number_arg-2.ensures.rule in
    let batches = c.in_ok-arg-3.ensures.shape c.number_arg-3.ensures.global ∙ ap₂ with_rule rules c.number_arg-3.ensures.rule in
    let slots = c.in_ok-arg-4.ensures.shape c.slots_arg.ensures.global ∙ ap₂ with_rule batches c.slots_arg.ensures.rule in
    let ranges = c.in_ok-arg-5.ensures.shape c.ranges_arg.ensures.global ∙ ap₂ with_rule slots c.ranges_arg.ensures.rule in
    c.in_ok-arg-6.ensures.shape c.placement_arg.ensures.global ∙ ap₂ with_rule ranges c.placement_arg.ensures.rule
