use Rattle.std.proofs.Common.{◌≡◌, ◌⊎◌, ℕ, ◌<◌, true, Contains, get_or, length}
use Rattle.rule_model.specs.Entry.{RankedPiece, entry_for}
use Rattle.readback.specs.Tasks.{stands_in}
use Rattle.readback.proofs.missing.missing.Given as goal

-- each of the first ones is taken out or stands
abbrev pub invariant-loop-piece : goal.invariant-loop-piece
invariant-loop-piece l = (k : ℕ) (ranked : RankedPiece) → k < l.piece-index → k < length l.commit.old → get_or l.commit.old k ranked ≡ ranked
    → ((other : RankedPiece) × Contains l.commit.erased other × (entry_for other ≡ entry_for ranked)) ⊎ (stands_in l.held ranked ≡ true)
