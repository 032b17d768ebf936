use Rattle.std.proofs.Common.{◌≡◌, drop}
use Rattle.json.specs.Value.{members_view}
use Rattle.json_routes.specs.Lines.{member_line, each_member, onto}
use Rattle.json_routes.proofs.hops.put_members.Given as goal

abbrev pub invariant-loop-member : goal.invariant-loop-member
invariant-loop-member l = record {
  same : onto l.fn.line.items (each_member member_line (members_view l.members)) ≡ onto l.line.items (each_member member_line (members_view (drop l.member-index l.members)));
}
