use Rattle.std.proofs.Common.{◌≡◌, ℕ, ◌<◌, get_or, length}
use Rattle.rule_model.specs.Entry.{RankedPiece, entry_for}
use Rattle.trace_check.proofs.known.find.Given as goal

-- none of the first ones has it
abbrev pub invariant-loop-piece : goal.invariant-loop-piece
invariant-loop-piece l = (k : ℕ) (ranked : RankedPiece) → k < l.piece-index → k < length l.pieces → get_or l.pieces k ranked ≡ ranked → entry_for ranked ≡ l.entry → ⊥
