use Rattle.std.proofs.Common.{◌<◌, ◌∙◌, List, Option, length, sym, ap, subst, arith}
use Rattle.rule_model.specs.declared.words.Entry.{Entry}
use Rattle.lane_lookup.specs.Columns.{used_from}
use Rattle.lane_lookup.proofs.Rows.{columns_put, count_put}
use Rattle.lane_lookup.proofs.Used.{zeros_put}
use Rattle.lane_lookup.proofs.columns.Columns.set.Goals as goal

pub list_used-requires-clause-count : goal.list_used-requires-clause-count
list_used-requires-clause-count c =
    rw (c.deref.ensures.value, c.put_row.ensures.row) (count_put c.args.slot c.self.inside.lanes.items c.in-Some.row.value.lane c.in-Some.row.mask.lane ∙ c.self.invariant.0.count)

pub invariant_of-self-in-Some : goal.invariant_of-self-in-Some
invariant_of-self-in-Some c = (
  rw (c.in-Some.is, c.put_row.ensures.row)
      (columns_put c.self.inside.slots.items c.self.inside.lanes.items c.self.inside.vacant.items c.args.slot c.in-Some.row c.self.invariant.0
      (subst (λ (slots : List (Option Entry)). c.args.slot < length slots) (sym c.self.view_is) c.requires) c.put_row.ensures.widths.0 c.put_row.ensures.widths.1),
  record {
    listed = c.list_used.ensures.listed ∙ ap (λ lanes. used_from lanes 0) c.deref.ensures.value;
    zeros = rw c.put_row.ensures.row (zeros_put c.args.slot c.self.inside.lanes.items c.in-Some.row.value.lane c.in-Some.row.mask.lane c.self.invariant.1.zeros);
    room = let room = c.self.invariant.1.room in omega arith;
  },
)
