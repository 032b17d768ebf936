use Rattle.std.proofs.Common.{◌≡◌, ℕ, ◌-◌, ◌^◌, ◌<◌, ◌≤◌, Some}
use Rattle.slot_order.specs.Order.{slot}
use Rattle.rule_model.specs.Entry.{RankedPiece}
use Rattle.trace_check.specs.Columns.{IsNear, coarse_rank}
use Rattle.trace_check.proofs.placed.Placed.next_near.Given as goal

-- none that was passed over is near
abbrev pub invariant-loop-next : goal.invariant-loop-next
invariant-loop-next l = record {
  from : l.from ≤ l.next;
  most : l.next ≤ l.to;
  passed : (k : ℕ) (ranked : RankedPiece) → l.from ≤ k → k < l.next → slot l.self k ≡ Some ranked → (coarse_rank ranked.rank < 2 ^ 32 - 1 → IsNear l.ranks l.windows ranked) → ⊥;
}

abbrev pub decreases-loop-next : goal.decreases-loop-next
decreases-loop-next l = l.to - l.next
