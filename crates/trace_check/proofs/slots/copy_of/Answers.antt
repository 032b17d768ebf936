use Rattle.std.proofs.Common.{◌≡◌, ◌≢◌, ℕ, ◌<◌, Some, IsTrue, get_or, length, ◌∙◌, arith}
use Rattle.std.specs.Prelude.{slice_index}
use Rattle.std.proofs.lemmas.Bool.{both_ways}
use Rattle.std.proofs.lemmas.List.{get_or_default}
use Rattle.slot_order.specs.Order.{slot}
use Rattle.rule_model.specs.Entry.{RankedPiece, entry_for, same_match}
use Rattle.readback.proofs.Pairs.{below_next}
use Rattle.trace_check.proofs.slots.copy_of.Goals as goal

pub loop-other-preserved : goal.loop-other-preserved
loop-other-preserved c k at copy below inside read apart there match =
    below_next (λ k. (at : ℕ) (one : RankedPiece) → k < length c.alike-alike.result.now → get_or c.alike-alike.result.now k at ≡ at → at ≢ c.args.at → slot c.args.places.now at ≡ Some one
    → IsTrue (same_match c.args.entry.now (entry_for one)) → ⊥) c.loop-other.other-index
    (λ k before at one. c.loop-other.invariant k at one before) here k below at copy inside read apart there match
  where
    here : (at : ℕ) (one : RankedPiece) → c.loop-other.other-index < length c.alike-alike.result.now → get_or c.alike-alike.result.now c.loop-other.other-index at ≡ at → at ≢ c.args.at
        → slot c.args.places.now at ≡ Some one → IsTrue (same_match c.args.entry.now (entry_for one)) → ⊥
    here at one inside read apart there match =
        let same : slice_index c.alike-alike.result.now c.loop-other.other-index ≡ at = get_or_default c.alike-alike.result.now c.loop-other.other-index 0 at inside ∙ read in
        both_ways c.is_copy.result c.if-is_copy.false (c.is_copy.ensures.copy.1 (rw same (apart, (one, there, match))))

pub returns-clause-none : goal.returns-clause-none
returns-clause-none c _ other copy apart there match =
    let listed = c.alike-alike.ensures other copy there match in
    let all = c.loop-other-test.false in
    let inside = listed.1 in
    c.loop-other.invariant listed.0 other copy (omega arith) inside listed.2 apart there match
