use Rattle.std.proofs.Common.{◌≡◌, ℕ, ◌<◌, false}
use Rattle.range_bits.specs.LiveRanges.{is_range, range_at}
use Rattle.range_bits.proofs.BitMap.bit_of.Given as goal

-- no bit so far has the range
abbrev pub invariant-loop-bit : goal.invariant-loop-bit
invariant-loop-bit l = (k : ℕ) → k < l.bit → is_range l.fn.range (range_at l.ranges k) ≡ false
