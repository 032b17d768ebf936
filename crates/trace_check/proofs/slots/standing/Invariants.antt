use Rattle.std.proofs.Common.{◌≡◌, ℕ, ◌<◌, Some, get_or, length}
use Rattle.slot_order.specs.Order.{slot}
use Rattle.rule_model.specs.Entry.{RankedPiece, entry_for}
use Rattle.trace_check.proofs.slots.standing.Given as goal

-- none of the first ones holds it
abbrev pub invariant-loop-at : goal.invariant-loop-at
invariant-loop-at l = (k place : ℕ) (ranked : RankedPiece) → k < l.at-index → k < length l.alike → get_or l.alike k place ≡ place → slot l.places place ≡ Some ranked → entry_for ranked ≡ l.entry → ⊥
