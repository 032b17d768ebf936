use Rattle.std.proofs.Common.{Contains, IsTrue, is_some, take}
use Rattle.rule_model.specs.PortRange.{PortRange}
use Rattle.rule_store.specs.Verdict.{coded_ranges}
use Rattle.range_bits.specs.LiveRanges.{bit_of}
use Rattle.commit_writes.proofs.translation.maps.has_each.Given as goal

-- the ranges of the first rules are live
abbrev pub invariant-loop-place : goal.invariant-loop-place
invariant-loop-place l = (range : PortRange) → Contains (coded_ranges l.field (take l.place l.rules.rules)) range → IsTrue (is_some (bit_of l.live range))
