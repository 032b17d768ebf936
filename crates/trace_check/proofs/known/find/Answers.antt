use Rattle.std.proofs.Common.{◌≡◌, ◌<◌, length, get_or, ◌∙◌, ap}
use Rattle.std.proofs.lemmas.Bool.{both_ways}
use Rattle.rule_model.specs.Entry.{RankedPiece, entry_for}
use Rattle.readback.proofs.Pairs.{below_next}
use Rattle.readback.proofs.Walks.{one_read}
use Rattle.trace_check.proofs.known.find.Goals as goal

pub loop-piece-preserved : goal.loop-piece-preserved
loop-piece-preserved c k ranked below =
    below_next (λ k. (one : RankedPiece) → k < length c.args.pieces.now → get_or c.args.pieces.now k one ≡ one → entry_for one ≡ c.args.entry.now → ⊥) c.loop-piece.piece-index
    (λ k before one. c.loop-piece.invariant k one before) here k below ranked
  where
    here : (one : RankedPiece) → c.loop-piece.piece-index < length c.args.pieces.now → get_or c.args.pieces.now c.loop-piece.piece-index one ≡ one → entry_for one ≡ c.args.entry.now → ⊥
    here one inside read same =
        let entry : c.piece.inside.entry ≡ entry_for c.piece-item.result = c.piece.invariant ∙ ap entry_for c.piece.view_is in
        let same_piece : c.piece-item.result ≡ one = one_read c.args.pieces.now c.loop-piece.piece-index c.piece-item.result one inside c.piece-item.is read in
        both_ways c.same_entry.result c.if-same_entry.false (c.same_entry.ensures.1 (entry ∙ (ap entry_for same_piece ∙ same)))
