use Rattle.std.proofs.Common.{◌≡◌}
use Rattle.range_bits.specs.LiveRanges.{word_for}
use Rattle.range_bits.proofs.Words.{rest_of}
use Rattle.range_bits.proofs.BitMap.word_for.Given as goal

-- the bits to come make the word out of the one so far
abbrev pub invariant-loop-live : goal.invariant-loop-live
invariant-loop-live l = rest_of l.ranges l.port l.word l.live ≡ word_for l.ranges l.port l.old
