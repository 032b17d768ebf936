use Rattle.std.proofs.Common.{◌≡◌, ◌≤◌, ◌<◌, ℕ, Some, None, sym, ◌∙◌, subst}
use Rattle.slot_order.specs.Order.{slot}
use Rattle.rule_model.specs.Piece.{PiecesOverlap}
use Rattle.rule_model.specs.Entry.{RankedPiece}
use Rattle.readback.proofs.Pairs.{below_next}
use Rattle.readback.proofs.Walks.{slot_read}
use Rattle.readback.proofs.crossing.crossed.Goals as goal
use Rattle.readback.proofs.crossing.crossed.Goals.{in-Some+else-is_behind_lower, in_default}

pub loop-at-preserved : goal.loop-at-preserved
loop-at-preserved c i j first second below =
    below_next (λ k. (a : ℕ) (low high : RankedPiece) → a < k → slot c.args.places.now a ≡ Some low → slot c.args.places.now k ≡ Some high → PiecesOverlap low.piece high.piece → high.rank ≤ low.rank) c.loop-at.at
    (λ k before a low high. c.loop-at.invariant a k low high before) here j below i first second
  where
    read : slot c.args.places.now c.loop-at.at ≡ c.index-places-at.result
    read = slot_read c.args.places.now c.loop-at.at c.index-places-at.result c.loop-at-test.true c.index-places-at.is

    here : (a : ℕ) (low high : RankedPiece) → a < c.loop-at.at → slot c.args.places.now a ≡ Some low → slot c.args.places.now c.loop-at.at ≡ Some high → PiecesOverlap low.piece high.piece → high.rank ≤ low.rank
    here a low high before at_a at_k over = elim c.match-places-at.branch [
      | in-Some+else-is_behind_lower w ↦
          let e : Some high ≡ Some w.in-Some.ranked = sym at_k ∙ (read ∙ w.in-Some.is) in
          let one : high ≡ w.in-Some.ranked = cc in
          subst (λ (x : RankedPiece). x.rank ≤ low.rank) (sym one) (w.is_behind_lower.ensures.none w.if-is_behind_lower.false a low before at_a (subst (λ (x : RankedPiece). PiecesOverlap low.piece x.piece) one over))
      | in_default w ↦ absurd (let wrong : None ≡ Some high = sym w.in_default.is ∙ (sym read ∙ at_k) in cc)
    ]
