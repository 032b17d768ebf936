-- Between commits the live bits are those of the set's ranges.
use Rattle.std.proofs.Common.{◌≡◌, ℕ, zero, suc, Some, None, List, [], replicate, sym, subst}
use Rattle.slot_order.proofs.Lists.{contains_none}
use Rattle.rule_model.specs.declared.Rule.{Rule}
use Rattle.rule_model.specs.declared.Field.TheVariants.{Src, Dst}
use Rattle.rule_model.specs.PortRange.{PortRange}
use Rattle.rule_store.specs.declared.Mode.{Mode}
use Rattle.rule_store.specs.declared.Mode.TheVariants.{Cover, Bits}
use Rattle.rule_store.specs.Verdict.{coded_ranges}
use Rattle.range_bits.specs.LiveRanges.{LiveRanges, no_ranges, range_at}
use Rattle.tcam_device.specs.State.{State}
use Rattle.commit_writes.specs.Bits.{FieldBits, no_bits}
use Rattle.commit_writes.specs.Serving.{AreRangesOf, AreBitsOf}
use Rattle.commit_writes.specs.Needed.{AreLive}
use Rattle.commit_writes.proofs.SetRanges.{are_by}
use Rattle.readback.specs.Fault.{AreSetBits}
use Rattle.readback.proofs.SetBits.{both_set}

-- no range is live where all bits are free
no_range : (bit size : ℕ) (range : PortRange) → range_at (replicate size None) bit ≡ Some range → ⊥
no_range bit zero range held = absurd (cc)
no_range zero (suc size) range held = absurd (cc)
no_range (suc bit) (suc size) range held = no_range bit size range held

-- the ranges that some rules need are live
field_set : (ranges : List PortRange) (live : LiveRanges) (table : List ℕ) → AreRangesOf ranges live table → AreLive live ranges
field_set ranges live table are = are_by live ranges are.needed are.serves.have_bits

-- between commits the bits are those of the set's ranges
pub set_bits_of : (mode : Mode) (bits : FieldBits) (rules : List Rule) (state : State) → AreBitsOf mode bits rules state → AreSetBits mode rules bits
set_bits_of Cover bits rules state are =
    subst (AreSetBits Cover rules) (sym are)
    (both_set Cover rules no_bits
    (are_by no_ranges [] (λ bit range held. absurd (no_range bit 16 range held)) (λ range member. absurd (contains_none range member)))
    (are_by no_ranges [] (λ bit range held. absurd (no_range bit 16 range held)) (λ range member. absurd (contains_none range member))))
set_bits_of Bits bits rules state are =
    both_set Bits rules bits (field_set (coded_ranges Src rules) bits.src state.src are.0) (field_set (coded_ranges Dst rules) bits.dst state.dst are.1)
