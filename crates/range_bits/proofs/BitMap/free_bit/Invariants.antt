use Rattle.std.proofs.Common.{◌≡◌, ℕ, ◌<◌, false, is_none}
use Rattle.range_bits.specs.LiveRanges.{range_at}
use Rattle.range_bits.proofs.BitMap.free_bit.Given as goal

-- no bit so far is free
abbrev pub invariant-loop-least : goal.invariant-loop-least
invariant-loop-least l = (k : ℕ) → k < l.least → is_none (range_at l.ranges k) ≡ false
