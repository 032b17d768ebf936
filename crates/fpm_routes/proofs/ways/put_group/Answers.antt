use Rattle.std.proofs.Common.{◌++◌, ◌-◌, sym, ap, ◌∙◌, append_assoc}
use Rattle.fpm_routes.specs.Ways.{group_by, group_member}
use Rattle.fpm_routes.proofs.Parts.{group-on}
use Rattle.fpm_routes.proofs.ways.put_group.Goals as goal

pub loop-left-preserved : goal.loop-left-preserved
loop-left-preserved c =
    let behind = group_by (c.loop-left.left - 1) c.behind-rest.result.now in
    record {
      same = c.loop-left.invariant.same
          ∙ ap (λ l. c.loop-left.into.items ++ l) (group-on c.loop-left.rest.now c.loop-left.left c.loop-left-test.true (sym c.is_short.ensures ∙ c.if-is_short.false)
          ∙ ap (λ r. group_member c.loop-left.rest.now ++ group_by (c.loop-left.left - 1) r) (sym c.behind-rest.ensures))
          ∙ sym (append_assoc c.loop-left.into.items (group_member c.loop-left.rest.now) behind)
          ∙ ap (λ l. l ++ behind) (sym c.in_ok-put_member_of_group.ensures);
    }
