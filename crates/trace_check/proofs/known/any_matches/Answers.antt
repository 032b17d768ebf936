use Rattle.std.proofs.Common.{◌≡◌, ◌<◌, IsTrue, length, get_or, sym, ◌∙◌, ap, subst}
use Rattle.std.proofs.lemmas.Bool.{both_ways}
use Rattle.rule_model.specs.declared.words.Entry.{Entry}
use Rattle.rule_model.specs.Entry.{RankedPiece, entry_for, same_match}
use Rattle.readback.proofs.Pairs.{below_next}
use Rattle.readback.proofs.Walks.{one_read}
use Rattle.trace_check.proofs.known.any_matches.Goals as goal

pub loop-piece-preserved : goal.loop-piece-preserved
loop-piece-preserved c k ranked below =
    below_next (λ k. (one : RankedPiece) → k < length c.args.pieces.now → get_or c.args.pieces.now k one ≡ one → IsTrue (same_match (entry_for one) c.args.entry.now) → ⊥) c.loop-piece.piece-index
    (λ k before one. c.loop-piece.invariant k one before) here k below ranked
  where
    here : (one : RankedPiece) → c.loop-piece.piece-index < length c.args.pieces.now → get_or c.args.pieces.now c.loop-piece.piece-index one ≡ one → IsTrue (same_match (entry_for one) c.args.entry.now) → ⊥
    here one inside read match =
        let entry : c.piece.inside.entry ≡ entry_for c.piece-item.result = c.piece.invariant ∙ ap entry_for c.piece.view_is in
        let same_piece : c.piece-item.result ≡ one = one_read c.args.pieces.now c.loop-piece.piece-index c.piece-item.result one inside c.piece-item.is read in
        both_ways (same_match c.piece.inside.entry c.args.entry.now) (sym c.same_match.ensures ∙ c.if-same_match.false)
        (subst (λ (e : Entry). IsTrue (same_match e c.args.entry.now)) (sym (entry ∙ ap entry_for same_piece)) match)
