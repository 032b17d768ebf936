use Rattle.std.proofs.Common.{◌≡◌, ◌≢◌, ℕ, ◌<◌, Some, IsTrue, get_or, length}
use Rattle.slot_order.specs.Order.{slot}
use Rattle.rule_model.specs.Entry.{RankedPiece, entry_for, same_match}
use Rattle.trace_check.proofs.slots.copy_of.Given as goal

-- none of the first ones is one
abbrev pub invariant-loop-other : goal.invariant-loop-other
invariant-loop-other l = (k at : ℕ) (copy : RankedPiece) → k < l.other-index → k < length l.alike → get_or l.alike k at ≡ at → at ≢ l.at → slot l.places at ≡ Some copy
    → IsTrue (same_match l.entry (entry_for copy)) → ⊥
