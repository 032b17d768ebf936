use Rattle.std.proofs.Common.{◌≡◌, ◌+◌, ◌≤◌, ◌<◌, Some, inl, inr, sym, ◌∙◌, ap, arith}
use Rattle.std.proofs.lemmas.Bool.{both_ways, cases_lt}
use Rattle.slot_order.specs.Order.{slot}
use Rattle.slot_order.proofs.Writes.{slot_inside}
use Rattle.rule_model.specs.Piece.{PiecesOverlap}
use Rattle.rule_model.specs.Entry.{RankedPiece}
use Rattle.block_windows.specs.Windows.{span_of}
use Rattle.readback.proofs.Pairs.{below_next}
use Rattle.trace_check.specs.Columns.{ranks_above}
use Rattle.trace_check.proofs.ColumnsKept.{higher_near, near_by}
use Rattle.trace_check.proofs.slots.is_before_higher.Goals as goal

pub loop-greater-init : goal.loop-greater-init
loop-greater-init c = record {
  past = (let least = c.next_near-greater.ensures.from in omega arith);
  most = c.next_near-greater.ensures.most;
  none = λ j second after less there over. elim (cases_lt c.args.ranked.now.rank second.rank) [
    | inl higher ↦ absurd (c.next_near-greater.ensures.passed j second (omega arith) less there (λ fits. near_by (c.ranks_above-ranks.ensures ∙ ap (λ (r : RankedPiece). ranks_above r.rank) c.ranked.view_is) (c.span_of-windows.ensures ∙ ap (λ (r : RankedPiece). span_of 0 r.piece.dst) c.ranked.view_is) (higher_near second c.args.ranked.now over higher fits)))
    | inr most ↦ most
  ];
}

pub returns-then-is_over-clause-some : goal.returns-then-is_over-clause-some
returns-then-is_over-clause-some c _ =
    let w = c.is_over.ensures.0 c.if-is_over.true in (c.loop-greater.greater, w.0, c.loop-greater.invariant.past, sym c.at.ensures ∙ w.1, w.2, w.3)

pub loop-greater-preserved : goal.loop-greater-preserved
loop-greater-preserved c = record {
  past = (let least = c.next_near-greater-in-loop-greater.ensures.from in let was = c.loop-greater.invariant.past in omega arith);
  most = c.next_near-greater-in-loop-greater.ensures.most;
  none = λ j second after less there over. elim (cases_lt j (c.loop-greater.greater + 1)) [
    | inl before ↦ below_next (λ k. (one : RankedPiece) → c.args.at < k → slot c.args.places.now k ≡ Some one → PiecesOverlap c.args.ranked.now.piece one.piece → one.rank ≤ c.args.ranked.now.rank)
        c.loop-greater.greater (λ k earlier one behind read meets. c.loop-greater.invariant.none k one behind earlier read meets) here j before second after there over
    | inr past ↦ elim (cases_lt c.args.ranked.now.rank second.rank) [
      | inl higher ↦ absurd (c.next_near-greater-in-loop-greater.ensures.passed j second past less there (λ fits. near_by (c.ranks_above-ranks.ensures ∙ ap (λ (r : RankedPiece). ranks_above r.rank) c.ranked.view_is) (c.span_of-windows.ensures ∙ ap (λ (r : RankedPiece). span_of 0 r.piece.dst) c.ranked.view_is) (higher_near second c.args.ranked.now over higher fits)))
      | inr most ↦ most
    ]
  ];
}
  where
    here : (one : RankedPiece) → c.args.at < c.loop-greater.greater → slot c.args.places.now c.loop-greater.greater ≡ Some one → PiecesOverlap c.args.ranked.now.piece one.piece → one.rank ≤ c.args.ranked.now.rank
    here one behind read over = elim (cases_lt c.args.ranked.now.rank one.rank) [
      | inl higher ↦ absurd (both_ways c.is_over.result c.if-is_over.false (c.is_over.ensures.1 (one, c.at.ensures ∙ read, over, higher)))
      | inr most ↦ most
    ]

pub returns-clause-none : goal.returns-clause-none
returns-clause-none c _ j second after read over =
    let inside = slot_inside c.args.places.now j second read in
    let all = c.loop-greater-test.false in
    let size = c.len-slots.ensures in
    c.loop-greater.invariant.none j second after (omega arith) read over
