use Rattle.std.proofs.Common.{Contains, List, ℕ, ◌∙◌, ap, sym, subst}
use Rattle.slot_order.specs.Order.{slot}
use Rattle.trace_check.proofs.GroupsKept.{alike_listed}
use Rattle.trace_check.proofs.placed.Placed.alike.Goals as goal

pub returns : goal.returns
returns c at ranked there match =
    let i = c.self.inside in
    subst (λ (slots : List ℕ). Contains slots at) (sym c.slots.ensures)
    (alike_listed i.pieces.items i.groups.items c.args.entry.now c.index.result.now at ranked c.self.invariant.1 (rw (← c.group_of.ensures.group) c.group_of.ensures.inside) (rw (← c.group_of.ensures.group) c.index.ensures)
    (ap (λ held. slot held at) c.self.view_is ∙ there) match)
