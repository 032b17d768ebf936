use Rattle.std.proofs.Common.{◌∙◌, ap₂}
use Rattle.clap.specs.Words.{with_rule}
use Rattle.router_cli.specs.CommandLine.{router_app}
use Rattle.router_cli.proofs.command_line.router_command.Goals as goal

pub returns-clause-app : goal.returns-clause-app
unfolding router_app
returns-clause-app c =
    let slots = c.in_ok-arg.ensures.shape c.slots_arg.ensures.global ∙ ap₂ with_rule c.new.ensures.app c.slots_arg.ensures.rule in
    let ranges = c.in_ok-arg-2.ensures.shape c.ranges_arg.ensures.global ∙ ap₂ with_rule slots c.ranges_arg.ensures.rule in
    let placement = c.in_ok-arg-3.ensures.shape c.placement_arg.ensures.global ∙ ap₂ with_rule ranges c.placement_arg.ensures.rule in
    let trace = c.in_ok-arg-4.ensures.shape c.trace_arg.ensures.global ∙ ap₂ with_rule placement c.trace_arg.ensures.rule in
    c.in_ok-arg-5.ensures.shape c.large_arg.ensures.global ∙ ap₂ with_rule trace c.large_arg.ensures.rule
