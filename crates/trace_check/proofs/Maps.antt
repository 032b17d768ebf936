-- What holds of the live bits of a set between commits of a trace, and that each commit keeps it.
use Rattle.std.proofs.Common.{◌≡◌, ℕ, zero, suc, Some, None, List, [], replicate, refl, sym, subst}
use Rattle.slot_order.proofs.Lists.{contains_none}
use Rattle.rule_model.specs.declared.Rule.{Rule}
use Rattle.rule_model.specs.declared.Field.TheVariants.{Src, Dst}
use Rattle.rule_model.specs.PortRange.{PortRange}
use Rattle.rule_store.specs.declared.Mode.{Mode}
use Rattle.rule_store.specs.declared.Mode.TheVariants.{Cover, Bits}
use Rattle.rule_store.specs.declared.Command.{Command}
use Rattle.rule_store.specs.Batch.{set_after}
use Rattle.rule_store.specs.Verdict.{coded_ranges}
use Rattle.range_bits.specs.LiveRanges.{LiveRanges, no_ranges, range_at}
use Rattle.range_bits.specs.FieldMap.{IsFieldMap}
use Rattle.range_bits.proofs.FieldMaps.{IsFieldMap-no_ranges}
use Rattle.tcam_device.specs.State.{State, IsState, state_after}
use Rattle.commit_writes.specs.Bits.{FieldBits, no_bits, bits_with, bits_left}
use Rattle.commit_writes.specs.Serving.{AreTranslated, AreRangesOf, AreBitsOf}
use Rattle.commit_writes.proofs.ServedTables.{bits_after}
use Rattle.commit_writes.specs.Needed.{AreLive}
use Rattle.commit_writes.specs.Shape.{fresh_writes}
use Rattle.commit_writes.proofs.SetRanges.{are_by}
use Rattle.readback.specs.Fault.{AreSetBits}
use Rattle.readback.specs.Laws.{CanCommit}
use Rattle.readback.proofs.Begun.{begun}
use Rattle.readback.proofs.SetBits.{both_set}

-- each field has a right map of bits, and the bits are those of the set's ranges
pub record HasMaps (mode : Mode) (rules : List Rule) (bits : FieldBits) : Type 0 where
  pub src : IsFieldMap bits.src
  pub dst : IsFieldMap bits.dst
  pub are : AreSetBits mode rules bits

-- no range is live where all bits are free
pub no_range : (bit size : ℕ) (range : PortRange) → range_at (replicate size None) bit ≡ Some range → ⊥
no_range bit zero range held = absurd (cc)
no_range zero (suc size) range held = absurd (cc)
no_range (suc bit) (suc size) range held = no_range bit size range held

-- by covers, and in a set without rules, no range has a bit
pub no_maps : (mode : Mode) → HasMaps mode [] no_bits
no_maps mode = record { src = IsFieldMap-no_ranges; dst = IsFieldMap-no_ranges; are = none mode }
  where
    empty : AreLive no_ranges []
    empty = are_by no_ranges [] (λ bit range held. absurd (no_range bit 16 range held)) (λ range member. absurd (contains_none range member))

    none : (mode : Mode) → AreSetBits mode [] no_bits
    none Cover = both_set Cover [] no_bits empty empty
    none Bits = both_set Bits [] no_bits empty empty

-- the ranges that some rules need are live
field_set : (ranges : List PortRange) (live : LiveRanges) (table : List ℕ) → AreRangesOf ranges live table → AreLive live ranges
field_set ranges live table are = are_by live ranges are.needed are.serves.have_bits

pub maps_of : (mode : Mode) (bits : FieldBits) (rules : List Rule) (state : State) → AreBitsOf mode bits rules state → HasMaps mode rules bits
maps_of Cover bits rules state are = subst (HasMaps Cover rules) (sym are) (record { src = IsFieldMap-no_ranges; dst = IsFieldMap-no_ranges; are = both_set Cover rules no_bits empty empty })
  where
    empty : AreLive no_ranges []
    empty = are_by no_ranges [] (λ bit range held. absurd (no_range bit 16 range held)) (λ range member. absurd (contains_none range member))
maps_of Bits bits rules state are = record {
  src = are.0.field_map;
  dst = are.1.field_map;
  are = both_set Bits rules bits (field_set (coded_ranges Src rules) bits.src state.src are.0) (field_set (coded_ranges Dst rules) bits.dst state.dst are.1);
}

-- behind a commit it holds of the bits that are left
pub maps_on : (device_slots : ℕ) (mode : Mode) (bits : FieldBits) (rules : List Rule) (batch : List Command) (state : State) → CanCommit mode bits rules batch → IsState device_slots state
    → AreTranslated state bits → HasMaps mode (set_after rules batch) (bits_left (set_after rules batch) (bits_with mode rules batch bits))
maps_on device_slots mode bits rules batch state can is right =
    maps_of mode (bits_left (set_after rules batch) (bits_with mode rules batch bits)) (set_after rules batch) (state_after state (fresh_writes mode bits rules batch state))
    (bits_after mode bits rules batch state (state_after state (fresh_writes mode bits rules batch state)) (begun mode bits rules batch device_slots state can is right) refl refl)
