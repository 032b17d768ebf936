use Rattle.std.proofs.Common.{◌≡◌, ◌+◌, ◌≤◌, Some, inl, inr, sym, ◌∙◌, ap, arith}
use Rattle.std.proofs.lemmas.Bool.{both_ways, cases_lt}
use Rattle.slot_order.specs.Order.{slot}
use Rattle.rule_model.specs.Piece.{PiecesOverlap}
use Rattle.rule_model.specs.Entry.{RankedPiece}
use Rattle.block_windows.specs.Windows.{span_of}
use Rattle.readback.proofs.Pairs.{below_next}
use Rattle.trace_check.specs.Columns.{ranks_below}
use Rattle.trace_check.proofs.ColumnsKept.{lower_near, near_by}
use Rattle.trace_check.proofs.slots.is_behind_lower.Goals as goal

pub loop-lesser-init : goal.loop-lesser-init
loop-lesser-init c = record {
  most = c.next_near-lesser.ensures.most;
  none = λ i first less there over. elim (cases_lt first.rank c.args.ranked.now.rank) [
    | inl lower ↦ absurd (c.next_near-lesser.ensures.passed i first (omega arith) less there (λ fits. near_by (c.ranks_below-ranks.ensures ∙ ap (λ (r : RankedPiece). ranks_below r.rank) c.ranked.view_is) (c.span_of-windows.ensures ∙ ap (λ (r : RankedPiece). span_of 0 r.piece.dst) c.ranked.view_is) (lower_near first c.args.ranked.now over lower)))
    | inr least ↦ least
  ];
}

pub returns-then-is_under-clause-some : goal.returns-then-is_under-clause-some
returns-then-is_under-clause-some c _ =
    let w = c.is_under.ensures.0 c.if-is_under.true in (c.loop-lesser.lesser, w.0, c.loop-lesser-test.true, sym c.at.ensures ∙ w.1, w.2, w.3)

pub loop-lesser-preserved : goal.loop-lesser-preserved
loop-lesser-preserved c = record {
  most = c.next_near-lesser-in-loop-lesser.ensures.most;
  none = λ i first less there over. elim (cases_lt i (c.loop-lesser.lesser + 1)) [
    | inl before ↦ below_next (λ k. (one : RankedPiece) → slot c.args.places.now k ≡ Some one → PiecesOverlap one.piece c.args.ranked.now.piece → c.args.ranked.now.rank ≤ one.rank) c.loop-lesser.lesser
        (λ k earlier one read meets. c.loop-lesser.invariant.none k one earlier read meets) here i before first there over
    | inr past ↦ elim (cases_lt first.rank c.args.ranked.now.rank) [
      | inl lower ↦ absurd (c.next_near-lesser-in-loop-lesser.ensures.passed i first past less there (λ fits. near_by (c.ranks_below-ranks.ensures ∙ ap (λ (r : RankedPiece). ranks_below r.rank) c.ranked.view_is) (c.span_of-windows.ensures ∙ ap (λ (r : RankedPiece). span_of 0 r.piece.dst) c.ranked.view_is) (lower_near first c.args.ranked.now over lower)))
      | inr least ↦ least
    ]
  ];
}
  where
    here : (one : RankedPiece) → slot c.args.places.now c.loop-lesser.lesser ≡ Some one → PiecesOverlap one.piece c.args.ranked.now.piece → c.args.ranked.now.rank ≤ one.rank
    here one read over = elim (cases_lt one.rank c.args.ranked.now.rank) [
      | inl lower ↦ absurd (both_ways c.is_under.result c.if-is_under.false (c.is_under.ensures.1 (one, c.at.ensures ∙ read, over, lower)))
      | inr least ↦ least
    ]

pub returns-clause-none : goal.returns-clause-none
returns-clause-none c _ i first less there over = let all = c.loop-lesser-test.false in c.loop-lesser.invariant.none i first (omega arith) there over
