use Rattle.std.proofs.Common.{◌≡◌, ◌<◌, None, length, true, arith, sym, ◌∙◌, subst}
use Rattle.std.proofs.lemmas.List.{get_or_default}
use Rattle.rule_model.specs.Entry.{slot_hits}
use Rattle.slot_order.proofs.Lists.{position_found, position_none}
use Rattle.lane_lookup.proofs.columns.Columns.first_from.Goals as goal

pub returns-in-loop-slot : goal.returns-in-loop-slot
returns-in-loop-slot c =
    let slots = c.self.inside.slots.items in
    let len = c.len-slot-end.ensures in
    let inside : c.loop-slot.slot < length slots = omega arith in
    rw (← c.self.view_is)
    (sym (position_found (slot_hits c.args.word.now) slots c.loop-slot.slot None inside c.loop-slot.invariant
    (subst (λ here. slot_hits c.args.word.now here ≡ true) (sym c.in-Some.is ∙ c.index.ensures ∙ get_or_default slots c.loop-slot.slot _ None inside)
    (sym c.hits.ensures ∙ c.if-hits.true))))

pub returns : goal.returns
returns c =
    let slots = c.self.inside.slots.items in
    let len = c.len-slot-end.ensures in
    rw (← c.self.view_is) (sym (position_none (slot_hits c.args.word.now) slots None (λ k below. c.loop-slot.invariant k (omega arith))))
