use Rattle.std.proofs.Common.{◌≡◌, ℕ, ◌<◌, Some, IsTrue, get_or, length, refl, subst, sym, ◌∙◌, arith}
use Rattle.std.specs.Prelude.{slice_index}
use Rattle.std.proofs.lemmas.List.{get_or_default}
use Rattle.slot_order.specs.Order.{slot}
use Rattle.rule_model.specs.declared.words.Entry.{Entry}
use Rattle.rule_model.specs.Entry.{RankedPiece, entry_for, same_match}
use Rattle.tcam_device.proofs.One.{same_match-same}
use Rattle.readback.proofs.Pairs.{below_next}
use Rattle.trace_check.proofs.slots.standing.Goals as goal

pub returns-in-Some-clause-found : goal.returns-in-Some-clause-found
returns-in-Some-clause-found c = let w = c.in-Some.ensures.found in (w.1, (slice_index c.alike-alike.result.now c.loop-at.at-index, w.0))

pub loop-at-preserved : goal.loop-at-preserved
loop-at-preserved c k place ranked below inside read there same =
    below_next (λ k. (place : ℕ) (one : RankedPiece) → k < length c.alike-alike.result.now → get_or c.alike-alike.result.now k place ≡ place → slot c.args.places.now place ≡ Some one → entry_for one ≡ c.args.entry.now → ⊥) c.loop-at.at-index
    (λ k before place one. c.loop-at.invariant k place one before) here k below place ranked inside read there same
  where
    here : (place : ℕ) (one : RankedPiece) → c.loop-at.at-index < length c.alike-alike.result.now → get_or c.alike-alike.result.now c.loop-at.at-index place ≡ place → slot c.args.places.now place ≡ Some one
        → entry_for one ≡ c.args.entry.now → ⊥
    here place one inside read there is =
        let same : slice_index c.alike-alike.result.now c.loop-at.at-index ≡ place = get_or_default c.alike-alike.result.now c.loop-at.at-index 0 place inside ∙ read in
        c.in_default.ensures.none refl one (rw same there) is

pub returns-clause-none : goal.returns-clause-none
returns-clause-none c _ at ranked there same =
    let listed = c.alike-alike.ensures at ranked there (subst (λ (e : Entry). IsTrue (same_match c.args.entry.now e)) (sym same) (same_match-same c.args.entry.now)) in
    let all = c.loop-at-test.false in
    let inside = listed.1 in
    c.loop-at.invariant listed.0 at ranked (omega arith) inside listed.2 there same
