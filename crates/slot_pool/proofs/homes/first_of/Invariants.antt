use Rattle.std.proofs.Common.{◌≢◌, ℕ, ◌<◌, ◌≤◌, Some}
use Rattle.slot_order.specs.Order.{slot}
use Rattle.slot_pool.proofs.homes.first_of.Given as goal

-- no slot so far holds the id
abbrev pub invariant-loop-slot : goal.invariant-loop-slot
invariant-loop-slot l = (k : ℕ) → l.from ≤ k → k < l.slot → slot l.slots k ≢ Some l.id
