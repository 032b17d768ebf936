use Rattle.std.proofs.Common.{◌≡◌, ◌<◌, ◌*◌, ℕ, false}
use Rattle.slot_order.specs.Order.{slot}
use Rattle.rule_model.specs.Entry.{slot_hits}
use Rattle.lane_lookup.proofs.columns.Columns.first.Given as goal

abbrev pub invariant-loop-step : goal.invariant-loop-step
invariant-loop-step l = record {
  passed : (k : ℕ) → k < l.step * 8 → slot_hits l.word (slot l.self-inside.slots.items k) ≡ false;
  last : l.last < 11;
}
