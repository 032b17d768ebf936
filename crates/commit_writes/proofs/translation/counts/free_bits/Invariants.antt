use Rattle.std.proofs.Common.{take}
use Rattle.commit_writes.proofs.Used.{AreGiven}
use Rattle.commit_writes.proofs.translation.counts.free_bits.Given as goal

-- the ranges of the first rules have bits, and no others
abbrev pub invariant-loop-place : goal.invariant-loop-place
invariant-loop-place l = AreGiven l.field l.live (take l.place l.rules.rules)
