use Rattle.std.proofs.Common.{take, Ok, sym, ◌∙◌, ap}
use Rattle.route_reader.proofs.RouteLines.{line-of}
use Rattle.tcam_cli.proofs.top.read_route_act.Goals as goal

pub route_act-requires : goal.route_act-requires
route_act-requires c =
    let line = c.args.line.now in
    line-of c.args.version (take line.len line.bytes) c.in-Ok-Some.command (sym c.read_route.ensures ∙ c.in-Ok-Some.is ∙ ap Ok c.in-Ok-Some.field-0-is)
