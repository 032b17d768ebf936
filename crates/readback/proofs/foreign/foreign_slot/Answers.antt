use Rattle.std.proofs.Common.{◌≡◌, ◌<◌, Some, inl, inr, sym, ◌∙◌, arith}
use Rattle.std.proofs.lemmas.Bool.{ltb-false, ltb-true}
use Rattle.slot_order.specs.Order.{slot}
use Rattle.rule_model.specs.declared.words.Entry.{Entry}
use Rattle.rule_model.specs.Entry.{RankedPiece}
use Rattle.readback.proofs.Pairs.{below_next}
use Rattle.readback.proofs.Walks.{slot_read}
use Rattle.readback.proofs.foreign.foreign_slot.Goals as goal

pub returns-then-is_foreign-clause-some : goal.returns-then-is_foreign-clause-some
returns-then-is_foreign-clause-some c =
    let w = c.is_foreign.ensures.yes c.if-is_foreign.true in
    let inside = c.loop-at-test.true in
    let size = c.requires.size in (
      w.0,
      slot_read c.args.held.now c.loop-at.at c.index-held-at.result inside c.index-held-at.is ∙ w.1,
      elim w.2 [
        | inl unused ↦ inl (ltb-false _ _ unused)
        | inr none ↦ inr (slot_read c.args.places.now c.loop-at.at c.index-places-at.result (omega arith) c.index-places-at.is ∙ none)
      ],
    )

pub loop-at-preserved : goal.loop-at-preserved
loop-at-preserved c k below =
    below_next (λ k. (entry : Entry) → slot c.args.held.now k ≡ Some entry → (k < c.args.slots) × ((ranked : RankedPiece) × (slot c.args.places.now k ≡ Some ranked))) c.loop-at.at
    (λ k before. c.loop-at.invariant k before) here k below
  where
    here : (entry : Entry) → slot c.args.held.now c.loop-at.at ≡ Some entry → (c.loop-at.at < c.args.slots) × ((ranked : RankedPiece) × (slot c.args.places.now c.loop-at.at ≡ Some ranked))
    here entry read =
        let inside = c.loop-at-test.true in
        let size = c.requires.size in
        let w = c.is_foreign.ensures.no c.if-is_foreign.false entry (sym (slot_read c.args.held.now c.loop-at.at c.index-held-at.result inside c.index-held-at.is) ∙ read) in
        (ltb-true _ _ w.0, (w.1.0, slot_read c.args.places.now c.loop-at.at c.index-places-at.result (omega arith) c.index-places-at.is ∙ w.1.1))
