use Rattle.std.proofs.Common.{◌∙◌, arith}
use Rattle.json_routes.specs.Lines.{member_line}
use Rattle.json_routes.proofs.Told.{told-said}
use Rattle.json_routes.proofs.Each.{member-said}
use Rattle.json_routes.proofs.hops.put_members.Goals as goal

pub loop-member-preserved : goal.loop-member-preserved
loop-member-preserved c = record {
  same = c.loop-member.invariant.same
      ∙ member-said member_line c.args.members.now c.loop-member.member-index c.member-item.result c.member-item.result _ _ (omega arith) c.member-item.is
      (told-said _ _ _ c.in-Said.is c.in_ok-put_member.ensures);
}
