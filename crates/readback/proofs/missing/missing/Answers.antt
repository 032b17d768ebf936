use Rattle.std.proofs.Common.{◌≡◌, ◌⊎◌, ◌<◌, true, Contains, length, get_or, inl, inr, sym, ◌∙◌, ap, subst}
use Rattle.rule_model.specs.Entry.{RankedPiece, entry_for}
use Rattle.readback.specs.Tasks.{CommitPieces, stands_in}
use Rattle.readback.proofs.Pairs.{below_next}
use Rattle.readback.proofs.Walks.{one_read}
use Rattle.readback.proofs.missing.missing.Goals as goal
use Rattle.readback.proofs.missing.missing.Goals.{else-not-stands-via-then-not-stands+else-not-is_listed, else-not-stands-via-else-not-stands}

pub loop-piece-preserved : goal.loop-piece-preserved
loop-piece-preserved c k ranked below =
    below_next (λ k. (one : RankedPiece) → k < length c.args.commit.now.old → get_or c.args.commit.now.old k one ≡ one
    → ((other : RankedPiece) × Contains c.args.commit.now.erased other × (entry_for other ≡ entry_for one)) ⊎ (stands_in c.args.held.now one ≡ true)) c.loop-piece.piece-index
    (λ k before one. c.loop-piece.invariant k one before) here k below ranked
  where
    here : (one : RankedPiece) → c.loop-piece.piece-index < length c.args.commit.now.old → get_or c.args.commit.now.old c.loop-piece.piece-index one ≡ one
        → ((other : RankedPiece) × Contains c.args.commit.now.erased other × (entry_for other ≡ entry_for one)) ⊎ (stands_in c.args.held.now one ≡ true)
    here one inside read =
        let all : c.deref-piece-items.result.now ≡ c.args.commit.now.old = c.deref-piece-items.ensures.value ∙ ap (λ (p : CommitPieces). p.old) c.commit.view_is in
        let same : c.piece-item.result ≡ one = one_read c.args.commit.now.old c.loop-piece.piece-index c.piece-item.result one inside (subst (λ l. c.piece-item.result ≡ get_or l c.loop-piece.piece-index c.piece-item.result) all c.piece-item.is) read in
        elim c.else-not-stands.branch [
          | else-not-stands-via-then-not-stands+else-not-is_listed w ↦
              let listed = w.is_listed.ensures.0 w.if-not-is_listed.false in
              let erased : w.deref.result.now ≡ c.args.commit.now.erased = w.deref.ensures.value ∙ ap (λ (p : CommitPieces). p.erased) c.commit.view_is in
              inl (listed.0, subst (λ l. Contains l listed.0) erased listed.1, listed.2 ∙ ap entry_for same)
          | else-not-stands-via-else-not-stands w ↦ inr (ap (stands_in c.args.held.now) (sym same) ∙ (sym c.stands.ensures ∙ w.if-not-stands.false))
        ]
