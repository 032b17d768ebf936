use Rattle.std.proofs.Common.{◌∙◌, ap₂}
use Rattle.clap.specs.Words.{with_rule}
use Rattle.tcam_cli.specs.CommandLine.{acl_app}
use Rattle.tcam_cli.proofs.command_line.acl_command.Goals as goal

pub returns-clause-app : goal.returns-clause-app
unfolding acl_app
returns-clause-app c =
    let slots = c.in_ok-arg.ensures.shape c.slots_arg.ensures.global ∙ ap₂ with_rule c.new.ensures.app c.slots_arg.ensures.rule in
    let ranges = c.in_ok-arg-2.ensures.shape c.ranges_arg.ensures.global ∙ ap₂ with_rule slots c.ranges_arg.ensures.rule in
    let placement = c.in_ok-arg-3.ensures.shape c.placement_arg.ensures.global ∙ ap₂ with_rule ranges c.placement_arg.ensures.rule in
    let trace = c.in_ok-arg-4.ensures.shape c.trace_arg.ensures.global ∙ ap₂ with_rule placement c.trace_arg.ensures.rule in
    let depth = c.in_ok-arg-5.ensures.shape c.depth_arg.ensures.global ∙ ap₂ with_rule trace c.depth_arg.ensures.rule in
    let json = c.in_ok-arg-6.ensures.shape c.json_arg.ensures.global ∙ ap₂ with_rule depth c.json_arg.ensures.rule in
    let names = c.in_ok-arg-7.ensures.shape c.names_arg.ensures.global ∙ ap₂ with_rule json c.names_arg.ensures.rule in
    let removals = c.in_ok-arg-8.ensures.shape c.removals_arg.ensures.global ∙ ap₂ with_rule names c.removals_arg.ensures.rule in
    c.in_ok-arg-9.ensures.shape c.large_arg.ensures.global ∙ ap₂ with_rule removals c.large_arg.ensures.rule
