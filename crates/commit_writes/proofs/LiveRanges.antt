-- The ranges that are live while a commit is made: those before it, and the ones that get a bit.
use Rattle.std.proofs.Common.{◌≡◌, ℕ, zero, suc, true, false, Option, Some, None, is_some, List, [], ◌∷◌, length, refl, sym, ◌∙◌, subst}
use Rattle.std.specs.List.{list_any}
use Rattle.std.proofs.lemmas.Bool.{or_parts}
use Rattle.rule_model.specs.declared.Rule.{Rule}
use Rattle.rule_model.specs.declared.Field.TheVariants.{Src, Dst}
use Rattle.rule_model.specs.PortRange.{PortRange}
use Rattle.rule_store.specs.declared.Mode.{Mode}
use Rattle.rule_store.specs.declared.Mode.TheVariants.{Cover, Bits}
use Rattle.rule_store.specs.declared.Command.{Command}
use Rattle.rule_store.specs.Verdict.{new_ranges}
use Rattle.range_bits.specs.LiveRanges.{LiveRanges, no_ranges, range_at, with_ranges, newly_live}
use Rattle.range_bits.proofs.FieldMaps.{no_range}
use Rattle.range_bits.proofs.Newer.{newly_live-parts}
use Rattle.tcam_device.specs.State.{State}
use Rattle.commit_writes.specs.Actions.{have_bits}
use Rattle.commit_writes.specs.Bits.{FieldBits, bits_with, new_bits}
use Rattle.commit_writes.specs.InFlight.{ArePartOf}
use Rattle.commit_writes.specs.Serving.{AreServing, AreTranslated}
use Rattle.commit_writes.proofs.ServedTables.{IsBitsStart, field_given}

none_live : (bit : ℕ) (range : PortRange) → range_at no_ranges bit ≡ Some range → ⊥
none_live bit range live = let clash : Some range ≡ None = sym live ∙ no_range bit in cc

-- where the tables serve some rules, each live bit is right in them
pub translated : (mode : Mode) (bits : FieldBits) (rules : List Rule) (state : State) → AreServing mode bits rules state → AreTranslated state bits
translated Cover bits rules state serving = record {
  src = λ bit range live. absurd (none_live bit range (subst (λ (some : FieldBits). range_at some.src bit ≡ Some range) serving live));
  dst = λ bit range live. absurd (none_live bit range (subst (λ (some : FieldBits). range_at some.dst bit ≡ Some range) serving live));
}
translated Bits bits rules state serving = record { src = serving.0.translated; dst = serving.1.translated }

-- those before the commit stay live,
pub live_meanwhile : (mode : Mode) (bits : FieldBits) (rules : List Rule) (batch : List Command) (state : State) → IsBitsStart mode bits rules batch state
    → ArePartOf bits (bits_with mode rules batch bits)
live_meanwhile Cover bits rules batch state start = record { src = λ bit range live. live; dst = λ bit range live. live }
live_meanwhile Bits bits rules batch state start = record {
  src = (field_given Src rules batch bits.src state.src start.changes start.are.0 start.few.0).stays;
  dst = (field_given Dst rules batch bits.dst state.dst start.changes start.are.1 start.few.1).stays;
}

-- where no bit of a list is live, none is at any place
none_at : (live : LiveRanges) (bit : ℕ) → list_any (λ range. is_some range) live ≡ false → range_at live bit ≡ None
none_at [] bit none = refl
none_at (None ∷ live) zero none = refl
none_at (None ∷ live) (suc bit) none = none_at live bit none
none_at (Some range ∷ live) bit none = absurd (let no : true ≡ false = none in cc)

same_field : (before during : LiveRanges) → length before ≡ length during
    → ((bit : ℕ) (range : PortRange) → range_at before bit ≡ Some range → range_at during bit ≡ Some range)
    → list_any (λ range. is_some range) (newly_live before during) ≡ false
    → (bit : ℕ) (range : PortRange) → range_at during bit ≡ Some range → range_at before bit ≡ Some range
same_field before during size stays none bit range live = go (range_at before bit) refl
  where
    go : (was : Option PortRange) → range_at before bit ≡ was → range_at before bit ≡ Some range
    go None free = absurd (
        let new : range_at (newly_live before during) bit ≡ Some range = (newly_live-parts before during bit range size).1 (free, live) in
        let clash : Some range ≡ None = sym new ∙ none_at (newly_live before during) bit none in
        cc)
    go (Some held) was = was ∙ (sym (stays bit held was) ∙ live)

-- and without a new bit no others are
pub same_ranges : (mode : Mode) (bits : FieldBits) (rules : List Rule) (batch : List Command) (state : State) → IsBitsStart mode bits rules batch state
    → have_bits (new_bits bits (bits_with mode rules batch bits)) ≡ false → ArePartOf (bits_with mode rules batch bits) bits
same_ranges Cover bits rules batch state start none = record { src = λ bit range live. live; dst = λ bit range live. live }
same_ranges Bits bits rules batch state start none =
    let during = bits_with Bits rules batch bits in
    let clear = or_parts (list_any (λ range. is_some range) (new_bits bits during).src) (list_any (λ range. is_some range) (new_bits bits during).dst) none in
    let src = field_given Src rules batch bits.src state.src start.changes start.are.0 start.few.0 in
    let dst = field_given Dst rules batch bits.dst state.dst start.changes start.are.1 start.few.1 in
    record {
      src = same_field bits.src (with_ranges bits.src (new_ranges Src rules batch)) (start.are.0.field_map.places ∙ sym src.field_map.places) src.stays clear.0;
      dst = same_field bits.dst (with_ranges bits.dst (new_ranges Dst rules batch)) (start.are.1.field_map.places ∙ sym dst.field_map.places) dst.stays clear.1;
    }
