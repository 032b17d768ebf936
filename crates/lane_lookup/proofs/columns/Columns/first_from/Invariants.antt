use Rattle.std.proofs.Common.{◌≡◌, ◌<◌, ℕ, false}
use Rattle.slot_order.specs.Order.{slot}
use Rattle.rule_model.specs.Entry.{slot_hits}
use Rattle.lane_lookup.proofs.columns.Columns.first_from.Given as goal

abbrev pub invariant-loop-slot : goal.invariant-loop-slot
invariant-loop-slot l = (k : ℕ) → k < l.slot → slot_hits l.word (slot l.self-inside.slots.items k) ≡ false
