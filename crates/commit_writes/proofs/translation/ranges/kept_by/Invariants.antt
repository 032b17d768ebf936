use Rattle.std.proofs.Common.{◌≡◌, ◌<◌, length}
use Rattle.rule_store.specs.Verdict.{coded_ranges}
use Rattle.commit_writes.proofs.Kept.{kept_below}
use Rattle.commit_writes.proofs.translation.ranges.kept_by.Given as goal

-- the bits so far are done, and there are 16
abbrev pub invariant-loop-bit : goal.invariant-loop-bit
invariant-loop-bit l = record {
  done : l.live ≡ kept_below l.fn.live (coded_ranges l.field l.rules.rules) l.bit;
  places : 0 < l.bit → length l.fn.live ≡ 16;
}
