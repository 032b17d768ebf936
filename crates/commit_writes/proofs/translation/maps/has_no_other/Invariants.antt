use Rattle.std.proofs.Common.{◌≡◌, ℕ, ◌<◌, Some, Contains, length}
use Rattle.rule_model.specs.PortRange.{PortRange}
use Rattle.rule_store.specs.Verdict.{coded_ranges}
use Rattle.range_bits.specs.LiveRanges.{range_at}
use Rattle.commit_writes.proofs.translation.maps.has_no_other.Given as goal

-- the bits so far have none, and there are 16
abbrev pub invariant-loop-bit : goal.invariant-loop-bit
invariant-loop-bit l = record {
  right : (bit : ℕ) → bit < l.bit → (range : PortRange) → range_at l.live bit ≡ Some range → Contains (coded_ranges l.field l.rules.rules) range;
  places : 0 < l.bit → length l.live ≡ 16;
}
