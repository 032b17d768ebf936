use Rattle.std.proofs.Common.{◌≡◌, ◌<◌, None, List, Option, length, sym, ◌∙◌, subst}
use Rattle.std.proofs.lemmas.List.{get_or_default}
use Rattle.slot_order.specs.Order.{slot}
use Rattle.rule_model.specs.Entry.{RankedPiece}
use Rattle.trace_check.specs.Groups.{AreGroupsOf}
use Rattle.trace_check.proofs.ColumnsKept.{set_columns}
use Rattle.trace_check.proofs.GroupsKept.{set_groups}
use Rattle.trace_check.proofs.PagesKept.{set_bounds}
use Rattle.trace_check.proofs.placed.Placed.set.Goals as goal

pub invariant_of-self : goal.invariant_of-self
invariant_of-self c = (c.self.invariant.0, subst (AreGroupsOf c.self.inside.pieces.items) (sym c.in_err-regroup.ensures.same) c.self.invariant.1, c.self.invariant.2)

pub invariant_of-self-2 : goal.invariant_of-self-2
invariant_of-self-2 c =
    let i = c.self.inside in
    let inside = subst (λ (held : List (Option RankedPiece)). c.args.at < length held) (sym c.self.view_is) c.requires in
    let there : slot i.pieces.items c.args.at ≡ c.index.result.now = get_or_default i.pieces.items c.args.at None c.index.result.now inside ∙ sym c.index.ensures in
    let columns = set_columns i.pieces.items i.ranks.items i.firsts.items i.lasts.items c.args.at c.replace.new.dest c.cells_of-cells.result inside c.self.invariant.0 (λ x same. c.cells_of-cells.ensures x (sym c.replace.ensures.after ∙ same)) in
    let told = rw (c.deref.ensures.value) at c.bounds_of.ensures in (
      columns,
      set_groups i.pieces.items i.groups.items c.regroup.new.groups.items c.args.at c.replace.new.dest c.group_at-goes.result c.group_at-comes.result inside c.self.invariant.1 c.regroup.ensures.size
          c.in_ok-regroup.ensures.others c.in_ok-regroup.ensures.here (λ same. c.group_at-goes.ensures.none (sym there ∙ same)) (λ x same. c.group_at-goes.ensures.group x (sym there ∙ same)) (λ x same. c.group_at-comes.ensures.group x (sym c.replace.ensures.after ∙ same)),
      set_bounds i.pieces.items _ _ _ i.bounds.items c.args.at c.replace.new.dest c.bounds_of.result inside c.self.invariant.2 columns told,
    )
