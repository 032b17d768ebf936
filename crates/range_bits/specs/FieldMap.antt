-- What holds of the live ranges of a field at every moment, and that changes of a commit keep it.
use Rattle.std.specs.Prelude.{◌≡◌, ◌≢◌, ℕ, Some, None, List, length, count_by, is_some, All, AllPairs}
use Rattle.rule_model.specs.PortRange.{PortRange, IsPortRange}
use Rattle.range_bits.specs.LiveRanges.{LiveRanges, range_at, bit_of, with_ranges, kept_ranges}

-- how many ranges are live
abbrev pub live_count : LiveRanges → ℕ
live_count live = count_by (λ held. is_some held) live

-- 16 bits, each with a range that is right or with none, and no range has two bits
pub record IsFieldMap (live : LiveRanges) : Type 0 where
  pub places : length live ≡ 16
  pub right : (bit : ℕ) (range : PortRange) → range_at live bit ≡ Some range → IsPortRange range
  pub one_bit : (a b : ℕ) (range : PortRange) → range_at live a ≡ Some range → range_at live b ≡ Some range → a ≡ b

-- ranges that are right, none of them live and no two the same
pub record AreNewRanges (live : LiveRanges) (ranges : List PortRange) : Type 0 where
  pub right : All (λ range. IsPortRange range) ranges
  pub not_live : All (λ range. bit_of live range ≡ None) ranges
  pub apart : AllPairs (λ range other. range ≢ other) ranges

-- new ranges that get bits leave 16 bits, and no range with two
abbrev pub NewRangesGetOneBit : Type 0
NewRangesGetOneBit =
    (live : LiveRanges) (ranges : List PortRange) → IsFieldMap live → AreNewRanges live ranges → IsFieldMap (with_ranges live ranges)

-- and so do ranges that give up their bits
abbrev pub KeptRangesHaveOneBit : Type 0
KeptRangesHaveOneBit = (live : LiveRanges) (ranges : List PortRange) → IsFieldMap live → IsFieldMap (kept_ranges live ranges)
