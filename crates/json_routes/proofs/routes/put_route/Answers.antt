use Rattle.std.proofs.Common.{ap, ◌∙◌}
use Rattle.json.specs.Value.{value_view}
use Rattle.json.proofs.Trees.{view-Object}
use Rattle.json_routes.specs.Lines.{route_line, route_member}
use Rattle.json_routes.proofs.Told.{if-told, members-alone}
use Rattle.json_routes.proofs.routes.put_route.Goals as goal

pub returns-in-Object : goal.returns-in-Object
returns-in-Object c =
    if-told c.put_route_members.result _ _ _ (
    ap (λ v. route_line (value_view v)) c.in-Object.is
    ∙ ap route_line (view-Object c.in-Object.members)
    ∙ members-alone _ route_member c.in-Object.members.items _ c.clear.ensures.items c.as_slice.ensures.value
    )
    c.put_route_members.ensures
