use Rattle.std.proofs.Common.{take, Ok, sym, ◌∙◌, ap}
use Rattle.route_reader.proofs.RouteLines.{line-of}
use Rattle.router_reader.proofs.route_act_of.Goals as goal

pub route_act-requires : goal.route_act-requires
route_act-requires c =
    let line = c.args.line.now in
    line-of c.args.version (take line.len line.bytes) c.in-Some.command (sym c.read_route.ensures ∙ c.in_ok-read_route.was ∙ ap Ok c.in-Some.is)
