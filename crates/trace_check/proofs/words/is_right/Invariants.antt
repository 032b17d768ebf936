use Rattle.std.proofs.Common.{◌≡◌, ℕ, ◌<◌, Some}
use Rattle.rule_model.specs.PortRange.{PortRange, is_bit_set, range_holds}
use Rattle.range_bits.specs.FieldMap.{IsFieldMap}
use Rattle.range_bits.specs.LiveRanges.{range_at}
use Rattle.trace_check.proofs.words.is_right.Given as goal

-- the first bits are right, and there are no more than a word has
abbrev pub invariant-loop-bit : goal.invariant-loop-bit
invariant-loop-bit l = record {
  right : (bit : ℕ) (range : PortRange) → bit < l.bit → range_at l.live bit ≡ Some range → is_bit_set l.word bit ≡ range_holds range l.port;
  map : 0 < l.bit → IsFieldMap l.live;
}
