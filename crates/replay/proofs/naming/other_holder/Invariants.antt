use Rattle.std.proofs.Common.{◌≡◌, ◌<◌, ℕ, false}
use Rattle.std.specs.Prelude.{None, slice_set}
use Rattle.slot_order.specs.Order.{slot}
use Rattle.tcam_device.specs.Insertion.{holds_match}
use Rattle.tcam_device.specs.View.{device_state}
use Rattle.replay.proofs.naming.other_holder.Given as goal

-- no slot before this one is another that has the entry
abbrev pub invariant-loop-at : goal.invariant-loop-at
invariant-loop-at g l = (k : ℕ) → k < l.at → holds_match l.entry (slot (slice_set (device_state (g.D.Writable.view l.device)).slots l.slot None) k) ≡ false
