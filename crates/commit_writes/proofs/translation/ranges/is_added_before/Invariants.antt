use Rattle.std.proofs.Common.{◌≡◌, drop, take}
use Rattle.std.specs.List.{list_any}
use Rattle.rule_model.specs.PortRange.{same_range}
use Rattle.rule_store.specs.Batch.{additions}
use Rattle.rule_store.specs.Verdict.{coded_ranges}
use Rattle.commit_writes.proofs.Coded.{asked_ranges}
use Rattle.commit_writes.proofs.translation.ranges.is_added_before.Given as goal

-- the commands to come tell it
abbrev pub invariant-loop-earlier : goal.invariant-loop-earlier
invariant-loop-earlier l =
    list_any (same_range l.range) (coded_ranges l.field (additions (take l.place l.batch)))
    ≡ list_any (same_range l.range) (asked_ranges l.field (drop l.earlier (take l.place l.batch)))
