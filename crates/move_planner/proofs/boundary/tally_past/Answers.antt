use Rattle.std.proofs.Common.{◌≡◌, ◌+◌, ◌-◌, ℕ, Option, None, Some, Bool, true, false, not, refl, sym, ◌∙◌, ap}
use Rattle.std.specs.Prelude.{is_none, is_some}
use Rattle.slot_order.specs.Order.{slot}
use Rattle.move_planner.specs.Boundary.{one}
use Rattle.move_planner.proofs.Tallied.{tallied_more}
use Rattle.move_planner.proofs.boundary.tally_past.Goals as goal

same_not : (a b : Bool) → not a ≡ not b → a ≡ b
same_not true true e = refl
same_not false false e = refl
same_not true false e = sym e
same_not false true e = sym e

some_not : (held : Option ℕ) → is_some held ≡ not (is_none held)
some_not None = refl
some_not (Some id) = refl

pub returns : goal.returns
returns c =
    let free : c.is_none.result ≡ is_none (slot c.args.slots.now c.args.slot) = same_not _ _ (sym c.is_none.ensures ∙ some_not c.at.result ∙ ap (λ held. not (is_none held)) c.at.ensures) in
    tallied_more c.args.slots.now c.args.sides.now c.args.tally _ c.args.slot c.is_marked-2.result c.is_marked.result c.requires.tallied c.requires.low c.requires.high c.requires.inside
    c.requires.behind c.requires.before c.is_marked.ensures c.is_marked-2.ensures (ap (λ n. c.args.tally.early + n) c.one_if.ensures) (ap (λ n. c.args.tally.late - n) c.one_if-2.ensures)
    (ap (λ n. c.args.tally.free_before + n) (c.one_if-free.ensures ∙ ap one free))
    (ap (λ n. c.args.tally.free_behind - n) (c.one_if-free.ensures ∙ ap one free))
