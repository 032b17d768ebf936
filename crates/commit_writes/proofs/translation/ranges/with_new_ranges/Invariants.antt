use Rattle.std.proofs.Common.{drop}
use Rattle.commit_writes.proofs.NewRanges.{IsOnTheWay}
use Rattle.commit_writes.proofs.translation.ranges.with_new_ranges.Given as goal

abbrev pub invariant-loop-place : goal.invariant-loop-place
invariant-loop-place l = IsOnTheWay l.fn.live l.live l.field l.batch (drop l.place l.batch)
