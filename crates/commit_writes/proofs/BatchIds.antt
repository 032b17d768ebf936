-- The ids of a planned batch: which piece each stands for, before and after some of the new results.
use Rattle.std.proofs.Common.{◌≡◌, Some, List, Contains, inl, inr, ◌⊎◌, refl, sym, ◌∙◌, subst, ap}
use Rattle.slot_order.proofs.Writes.{slot_inside}
use Rattle.rule_model.specs.Entry.{RankedPiece, entry_for}
use Rattle.placement.specs.declared.LivePiece.{LivePiece}
use Rattle.placement.proofs.Above.{piece_in, piece_is, live_is}
use Rattle.placement.specs.Insertion.{IsLive}
use Rattle.tcam_device.specs.State.{State}
use Rattle.commit_writes.specs.declared.Rewrite.{Rewrite}
use Rattle.commit_writes.specs.Planned.{IdEntries, entry_at}
use Rattle.commit_writes.specs.PlannedBatch.{rewritten_entries, IsRewriteOf}
use Rattle.commit_writes.proofs.Bridge.{HaveEntries}
use Rattle.commit_writes.proofs.Ids.{AreOfPieces, piece_by, whole_is}
use Rattle.commit_writes.proofs.Mirror.{entry_by}
use Rattle.commit_writes.proofs.Rewrites.{rewritten_at}

-- live pieces of one id are one
pub one_live : (state : State) (pieces : List RankedPiece) (all : List LivePiece) (held : IdEntries) (a b : LivePiece) → AreOfPieces state pieces all held → Contains all a → Contains all b → a.id ≡ b.id → a ≡ b
one_live state pieces all held a b of in_a in_b same = sym (piece_is a all a of.ids in_a) ∙ (ap (piece_in a all) same ∙ piece_is a all b of.ids in_b)

-- What a live piece shows while results change: what it was at first, or the same piece with its new result, where it has
-- that already.
pub record IsTold (pieces changed : List RankedPiece) (all : List LivePiece) (held : IdEntries) (rewrites : List Rewrite) (one : LivePiece) : Type 0 where
  pub was : RankedPiece
  pub member : Contains pieces was
  pub was_piece : was.piece ≡ one.piece
  pub was_rank : was.rank ≡ one.rank
  pub now : RankedPiece
  pub shows : piece_by all held one.id ≡ now
  pub has : entry_at held one.id ≡ Some (entry_for now)
  pub now_piece : now.piece ≡ one.piece
  pub now_rank : now.rank ≡ one.rank
  pub which : ((now ≡ was) × ((rewrite : Rewrite) → Contains rewrites rewrite → rewrite.id ≡ one.id → ⊥))
      ⊎ ((rewrite : Rewrite) × Contains changed now × Contains rewrites rewrite × (rewrite.id ≡ one.id))

-- some rewrites of live pieces' ids, each to the entry of a piece that has a new result
abbrev pub AreRewrites : List RankedPiece → List LivePiece → List Rewrite → Type 0
AreRewrites changed live rewrites = (rewrite : Rewrite) → Contains rewrites rewrite → (ranked : RankedPiece) × Contains changed ranked × IsRewriteOf live ranked rewrite

pub told : (state : State) (pieces changed : List RankedPiece) (live all : List LivePiece) (held : IdEntries) (rewrites : List Rewrite) (one : LivePiece) → AreOfPieces state pieces all held
    → ((other : LivePiece) → Contains live other → Contains all other) → AreRewrites changed live rewrites → Contains all one
    → IsTold pieces changed all (rewritten_entries held rewrites) rewrites one
told state pieces changed live all held rewrites one of up are member = elim (rewritten_at held rewrites one.id (slot_inside held one.id (entry_for own.0) own.4)) [
  | inl w ↦ new w.0 w.1 w.2 w.3
  | inr none ↦ record {
    was = own.0;
    member = own.1;
    was_piece = own.2;
    was_rank = own.3;
    now = own.0;
    shows = whole_is all (rewritten_entries held rewrites) one own.0 of.ids member own.2 own.3 (none.1 ∙ own.4);
    has = none.1 ∙ own.4;
    now_piece = own.2;
    now_rank = own.3;
    which = inl (refl, none.0);
  }
]
  where
    own : (ranked : RankedPiece) × Contains pieces ranked × (ranked.piece ≡ one.piece) × (ranked.rank ≡ one.rank) × (entry_at held one.id ≡ Some (entry_for ranked))
    own = of.entries_are.of_piece one member

    new : (rewrite : Rewrite) → Contains rewrites rewrite → rewrite.id ≡ one.id → entry_at (rewritten_entries held rewrites) one.id ≡ Some rewrite.entry
        → IsTold pieces changed all (rewritten_entries held rewrites) rewrites one
    new rewrite given is holds =
        let w = are rewrite given in
        let other : LivePiece = record { id = rewrite.id; piece = w.0.piece; rank = w.0.rank } in
        let whose : other ≡ one = one_live state pieces all held other one of (up other w.2.0) member is in
        let piece : w.0.piece ≡ one.piece = ap (λ (l : LivePiece). l.piece) whose in
        let rank : w.0.rank ≡ one.rank = ap (λ (l : LivePiece). l.rank) whose in
        let entry : entry_at (rewritten_entries held rewrites) one.id ≡ Some (entry_for w.0) = holds ∙ ap Some w.2.1 in
        record {
          was = own.0;
          member = own.1;
          was_piece = own.2;
          was_rank = own.3;
          now = w.0;
          shows = whole_is all (rewritten_entries held rewrites) one w.0 of.ids member piece rank entry;
          has = entry;
          now_piece = piece;
          now_rank = rank;
          which = inr (rewrite, w.1, given, is);
        }

-- each live id has the entry of what it shows
pub told_have : (pieces changed : List RankedPiece) (all : List LivePiece) (held : IdEntries) (rewrites : List Rewrite)
    → ((one : LivePiece) → Contains all one → IsTold pieces changed all held rewrites one) → HaveEntries held (piece_by all held) (IsLive all)
told_have pieces changed all held rewrites each id is =
    let w = live_is all id is in let t = each w.0 w.1 in
    subst (λ at. entry_at held at ≡ Some (entry_by (piece_by all held) at)) w.2 (t.has ∙ ap (λ r. Some (entry_for r)) (sym t.shows))
