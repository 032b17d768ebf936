use Rattle.std.proofs.Common.{ℕ, ◌<◌}
use Rattle.tcam_device.specs.Order.{AreAlike}
use Rattle.readback.proofs.doubled.partner_of.Given as goal

-- none of the first slots holds the entry
abbrev pub invariant-loop-lesser : goal.invariant-loop-lesser
invariant-loop-lesser l = (k : ℕ) → k < l.lesser → AreAlike l.held k l.at → ⊥
