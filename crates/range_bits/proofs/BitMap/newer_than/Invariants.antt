use Rattle.range_bits.proofs.Newer.{IsNewer}
use Rattle.range_bits.proofs.BitMap.newer_than.Given as goal

-- the bits so far have the ranges that are new, and the others none
abbrev pub invariant-loop-place : goal.invariant-loop-place
invariant-loop-place l = IsNewer l.earlier l.ranges l.newer l.place
