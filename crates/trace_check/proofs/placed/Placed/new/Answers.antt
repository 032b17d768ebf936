use Rattle.std.proofs.Common.{length, ◌∙◌, ap}
use Rattle.std.proofs.lemmas.List.{length-replicate}
use Rattle.trace_check.proofs.ColumnsKept.{blank_columns}
use Rattle.trace_check.proofs.GroupsKept.{blank_groups}
use Rattle.trace_check.proofs.PagesKept.{blank_bounds}
use Rattle.trace_check.proofs.placed.Placed.new.Goals as goal

pub invariant_of-result : goal.invariant_of-result
invariant_of-result c = (
  blank_columns c.args.slots c.in_ok-pieces.pieces.items c.in_ok-ranks.ranks.items c.in_ok-firsts.firsts.items c.in_ok-lasts.lasts.items c.in_ok-pieces.ensures
      (ap length (c.in_ok-ranks.ensures.items_if_clones_equal (λ y h. h)) ∙ length-replicate c.args.slots 4294967295)
      (ap length (c.in_ok-firsts.ensures.items_if_clones_equal (λ y h. h)) ∙ length-replicate c.args.slots 4294967295)
      (ap length (c.in_ok-lasts.ensures.items_if_clones_equal (λ y h. h)) ∙ length-replicate c.args.slots 0),
  blank_groups c.args.slots c.in_ok-pieces.pieces.items c.in_ok-groups.groups.items c.in_ok-pieces.ensures c.in_ok-groups.ensures,
  blank_bounds c.args.slots c.in_ok-pieces.pieces.items c.in_ok-bounds.bounds.items c.in_ok-pieces.ensures c.in_ok-bounds.ensures,
)
