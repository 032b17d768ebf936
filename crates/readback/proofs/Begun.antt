-- What a stage tells of the bits that its commit began with: the tables serve them, and they are those of the old set.
use Rattle.std.proofs.Common.{◌≡◌, ℕ, zero, suc, Some, None, IsSome, List, [], ◌∷◌, length, replicate, Contains, refl, sym, ◌∙◌, subst, ap, ap₂}
use Rattle.std.specs.Prelude.{◌↔◌}
use Rattle.slot_order.proofs.Lists.{contains_none}
use Rattle.rule_model.specs.declared.Rule.{Rule}
use Rattle.rule_model.specs.declared.Field.TheVariants.{Src, Dst}
use Rattle.rule_model.specs.PortRange.{PortRange}
use Rattle.rule_store.specs.declared.Mode.{Mode}
use Rattle.rule_store.specs.declared.Mode.TheVariants.{Cover, Bits}
use Rattle.rule_store.specs.declared.Command.{Command}
use Rattle.range_bits.specs.LiveRanges.{LiveRanges, no_ranges, range_at, bit_of}
use Rattle.range_bits.specs.FieldMap.{IsFieldMap}
use Rattle.range_bits.proofs.Given.{bit_of-at}
use Rattle.tcam_device.specs.State.{State, IsState}
use Rattle.tcam_device.specs.Order.{IsTranslated}
use Rattle.commit_writes.specs.Bits.{FieldBits, no_bits}
use Rattle.commit_writes.specs.Serving.{AreRangesOf, AreBitsOf, AreTranslated}
use Rattle.commit_writes.proofs.BatchRules.{IsSoundChange}
use Rattle.commit_writes.proofs.ServedTables.{IsBitsStart}
use Rattle.readback.specs.Fault.{AreSetBits}
use Rattle.readback.specs.Laws.{CanCommit}

-- where no range is live each bit is free
all_free : (live : LiveRanges) → ((bit : ℕ) (range : PortRange) → range_at live bit ≡ Some range → ⊥) → live ≡ replicate (length live) None
all_free [] none = refl
all_free (None ∷ live) none = ap (λ (rest : LiveRanges). None ∷ rest) (all_free live (λ bit range held. none (suc bit) range held))
all_free (Some range ∷ live) none = absurd (none zero range refl)

-- a range that has a bit is live
is_live : (live : LiveRanges) (range : PortRange) (bit : ℕ) → IsFieldMap live → range_at live bit ≡ Some range → IsSome (bit_of live range)
is_live live range bit is held = subst (λ found. IsSome found) (sym (bit_of-at live range bit is held)) refl

no_range_live : (live : LiveRanges) → IsFieldMap live → ((range : PortRange) → IsSome (bit_of live range) ↔ Contains [] range) → live ≡ no_ranges
no_range_live live is none =
    all_free live (λ bit range held. contains_none range ((none range).0 (is_live live range bit is held)))
    ∙ ap (λ size. replicate size None) is.places

-- the ranges of a field, by which its table is right
served_field : (ranges : List PortRange) (live : LiveRanges) (table : List ℕ) → IsFieldMap live → ((range : PortRange) → IsSome (bit_of live range) ↔ Contains ranges range)
    → ((bit : ℕ) (range : PortRange) → range_at live bit ≡ Some range → IsTranslated table bit range) → AreRangesOf ranges live table
served_field ranges live table is are right = record {
  field_map = is;
  needed = λ bit range held. (are range).0 (is_live live range bit is held);
  serves = record { places = is.places; have_bits = λ range member. (are range).1 member; translated = right };
}

-- by covers no range of a set has a bit
pub no_bits_live : (bits : FieldBits) (rules : List Rule) → IsFieldMap bits.src → IsFieldMap bits.dst → AreSetBits Cover rules bits → bits ≡ no_bits
no_bits_live bits rules src dst are =
    ap₂ (λ a b. let c : FieldBits = record { src = a; dst = b } in c) (no_range_live bits.src src (are Src)) (no_range_live bits.dst dst (are Dst))

set_bits : (mode : Mode) (bits : FieldBits) (rules : List Rule) (state : State) → IsFieldMap bits.src → IsFieldMap bits.dst → AreSetBits mode rules bits → AreTranslated state bits
    → AreBitsOf mode bits rules state
set_bits Cover bits rules state src dst are right = no_bits_live bits rules src dst are
set_bits Bits bits rules state src dst are right = (served_field _ bits.src state.src src (are Src) right.src, served_field _ bits.dst state.dst dst (are Dst) right.dst)

pub change_of : (mode : Mode) (bits : FieldBits) (rules : List Rule) (batch : List Command) → CanCommit mode bits rules batch → IsSoundChange rules batch
change_of mode bits rules batch can = record { is_set = can.is_set; right = can.right; changes = can.changes; sound = can.sound }

-- so a commit could begin where the tables serve them
pub begun : (mode : Mode) (bits : FieldBits) (rules : List Rule) (batch : List Command) (device_slots : ℕ) (state : State) → CanCommit mode bits rules batch → IsState device_slots state
    → AreTranslated state bits → IsBitsStart mode bits rules batch state
begun mode bits rules batch device_slots state can is right = record {
  is_state = subst (λ size. IsState size state) (sym is.size) is;
  changes = can.changes;
  are = set_bits mode bits rules state can.src_map can.dst_map can.bits_are right;
  few = can.few;
}
