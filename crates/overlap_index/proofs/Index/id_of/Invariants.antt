use Rattle.std.proofs.Common.{◌≡◌, ℕ, true, Contains}
use Rattle.placement.specs.declared.LivePiece.{LivePiece}
use Rattle.placement.specs.Live.{is_live}
use Rattle.overlap_index.proofs.Index.id_of.Given as goal

-- the ids that are left are live, and any with this piece and this priority is one of them
abbrev pub invariant-loop-id : goal.invariant-loop-id
invariant-loop-id l = record {
  live : (id : ℕ) → Contains l.id-iterator id → is_live l.self.live id ≡ true;
  left : (one : LivePiece) → Contains l.self.live one → one.piece ≡ l.piece → one.rank ≡ l.priority → Contains l.id-iterator one.id;
}
