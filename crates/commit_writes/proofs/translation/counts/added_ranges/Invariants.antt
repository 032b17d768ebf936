use Rattle.std.proofs.Common.{◌≡◌, ◌≤◌, length, take}
use Rattle.rule_store.specs.Verdict.{new_ranges}
use Rattle.commit_writes.proofs.translation.counts.added_ranges.Given as goal

-- the ranges that the first commands add are counted
abbrev pub invariant-loop-place : goal.invariant-loop-place
invariant-loop-place l = record {
  counted : l.count ≡ length (new_ranges l.field l.rules.rules (take l.place l.batch));
  most : l.count ≤ l.place;
}
