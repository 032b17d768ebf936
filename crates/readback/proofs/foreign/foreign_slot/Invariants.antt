use Rattle.std.proofs.Common.{◌≡◌, ℕ, ◌<◌, Some}
use Rattle.slot_order.specs.Order.{slot}
use Rattle.rule_model.specs.declared.words.Entry.{Entry}
use Rattle.rule_model.specs.Entry.{RankedPiece}
use Rattle.readback.proofs.foreign.foreign_slot.Given as goal

-- each of the first slots that holds an entry is in use and has a piece
abbrev pub invariant-loop-at : goal.invariant-loop-at
invariant-loop-at l = (k : ℕ) → k < l.at → (entry : Entry) → slot l.held k ≡ Some entry → (k < l.slots) × ((ranked : RankedPiece) × (slot l.places k ≡ Some ranked))
