-- When the tables of a device serve the ranges of some rules, and what holds of the bits between commits.
use Rattle.std.specs.Prelude.{◌≡◌, ℕ, ◌+◌, ◌≤◌, Some, IsSome, List, length, Contains}
use Rattle.rule_model.specs.declared.Rule.{Rule}
use Rattle.rule_model.specs.declared.Field.TheVariants.{Src, Dst}
use Rattle.rule_model.specs.PortRange.{PortRange}
use Rattle.rule_store.specs.declared.Mode.{Mode}
use Rattle.rule_store.specs.declared.Mode.TheVariants.{Cover, Bits}
use Rattle.rule_store.specs.declared.Command.{Command}
use Rattle.rule_store.specs.Verdict.{coded_ranges, new_ranges, field_bits}
use Rattle.range_bits.specs.LiveRanges.{LiveRanges, range_at, bit_of}
use Rattle.range_bits.specs.FieldMap.{IsFieldMap}
use Rattle.tcam_device.specs.State.{State}
use Rattle.tcam_device.specs.Order.{IsTranslated}
use Rattle.commit_writes.specs.Bits.{FieldBits, no_bits}

-- The table of a field serves some ranges: each of them has a bit, and each bit that is live is set exactly at the ports
-- of its range.
pub record ServesRanges (ranges : List PortRange) (live : LiveRanges) (table : List ℕ) : Type 0 where
  pub places : length live ≡ 16
  pub have_bits : (range : PortRange) → Contains ranges range → IsSome (bit_of live range)
  pub translated : (bit : ℕ) (range : PortRange) → range_at live bit ≡ Some range → IsTranslated table bit range

-- each live range's bit is set in its table exactly at the ports of the range
pub record AreTranslated (state : State) (bits : FieldBits) : Type 0 where
  pub src : (bit : ℕ) (range : PortRange) → range_at bits.src bit ≡ Some range → IsTranslated state.src bit range
  pub dst : (bit : ℕ) (range : PortRange) → range_at bits.dst bit ≡ Some range → IsTranslated state.dst bit range

-- the tables serve some rules: by covers no rule needs a bit
abbrev pub AreServing : Mode → FieldBits → List Rule → State → Type 0
AreServing Cover bits rules state = bits ≡ no_bits
AreServing Bits bits rules state =
    ServesRanges (coded_ranges Src rules) bits.src state.src × ServesRanges (coded_ranges Dst rules) bits.dst state.dst

-- Between commits a field's live ranges are those that some rule needs, each under one bit, and its table serves them.
pub record AreRangesOf (ranges : List PortRange) (live : LiveRanges) (table : List ℕ) : Type 0 where
  pub field_map : IsFieldMap live
  pub needed : (bit : ℕ) (range : PortRange) → range_at live bit ≡ Some range → Contains ranges range
  pub serves : ServesRanges ranges live table

-- so they are in both fields
abbrev pub AreBitsOf : Mode → FieldBits → List Rule → State → Type 0
AreBitsOf Cover bits rules state = bits ≡ no_bits
AreBitsOf Bits bits rules state =
    AreRangesOf (coded_ranges Src rules) bits.src state.src × AreRangesOf (coded_ranges Dst rules) bits.dst state.dst

-- the new ranges of a batch fit the bits that are free, in both fields
abbrev pub HaveFreeBits : Mode → List Rule → List Command → Type 0
HaveFreeBits Cover rules batch = Unit {0}
HaveFreeBits Bits rules batch =
    (length (coded_ranges Src rules) + length (new_ranges Src rules batch) ≤ field_bits)
    × (length (coded_ranges Dst rules) + length (new_ranges Dst rules batch) ≤ field_bits)
