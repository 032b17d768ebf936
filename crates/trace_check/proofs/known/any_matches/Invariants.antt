use Rattle.std.proofs.Common.{◌≡◌, ℕ, ◌<◌, IsTrue, get_or, length}
use Rattle.rule_model.specs.Entry.{RankedPiece, entry_for, same_match}
use Rattle.trace_check.proofs.known.any_matches.Given as goal

-- none of the first ones has such an entry
abbrev pub invariant-loop-piece : goal.invariant-loop-piece
invariant-loop-piece l = (k : ℕ) (ranked : RankedPiece) → k < l.piece-index → k < length l.pieces → get_or l.pieces k ranked ≡ ranked → IsTrue (same_match (entry_for ranked) l.entry) → ⊥
