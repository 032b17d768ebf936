use Rattle.std.proofs.Common.{◌∙◌, arith}
use Rattle.json_routes.specs.Lines.{route_member}
use Rattle.json_routes.proofs.Told.{told-said, told-unsaid}
use Rattle.json_routes.proofs.Each.{member-said, member-ends}
use Rattle.json_routes.proofs.routes.put_route_members.Goals as goal

pub returns-in-Unsaid : goal.returns-in-Unsaid
returns-in-Unsaid c =
    c.loop-member.invariant.same
    ∙ member-ends route_member c.args.members.now c.loop-member.member-index c.member-item.result c.member-item.result _ _ (omega arith) c.member-item.is
    (told-unsaid _ _ _ c.in-Unsaid.is c.in_ok-put_route_member.ensures)

pub loop-member-preserved : goal.loop-member-preserved
loop-member-preserved c = record {
  same = c.loop-member.invariant.same
      ∙ member-said route_member c.args.members.now c.loop-member.member-index c.member-item.result c.member-item.result _ _ (omega arith) c.member-item.is
      (told-said _ _ _ c.in-Said.is c.in_ok-put_route_member.ensures);
}
