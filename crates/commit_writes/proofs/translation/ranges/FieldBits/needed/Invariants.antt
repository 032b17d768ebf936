use Rattle.std.proofs.Common.{◌≡◌, ◌≤◌, length, take}
use Rattle.commit_writes.specs.Needed.{ranges_needed}
use Rattle.commit_writes.proofs.translation.ranges.FieldBits.needed.Given as goal

-- the ranges that the first commands need are counted
abbrev pub invariant-loop-place : goal.invariant-loop-place
invariant-loop-place l = record {
  counted : l.count ≡ length (ranges_needed l.field l.self (take l.place l.batch));
  most : l.count ≤ l.place;
}
