-- A blank device, and a commit that begins on a set at rest.
use Rattle.std.proofs.Common.{◌≡◌, ℕ, zero, suc, Option, Some, None, List, [], ◌∷◌, length, replicate, refl, sym, ◌∙◌, ap}
use Rattle.std.specs.List.{AllByRecursion}
use Rattle.slot_order.proofs.Lists.{contains_none}
use Rattle.slot_order.specs.Order.{slot}
use Rattle.rule_model.specs.declared.Rule.{Rule}
use Rattle.rule_model.specs.declared.Field.TheVariants.{Src, Dst}
use Rattle.rule_model.specs.declared.words.Entry.{Entry}
use Rattle.rule_model.specs.Entry.{RankedPiece}
use Rattle.rule_store.specs.declared.Mode.{Mode}
use Rattle.rule_store.specs.declared.Mode.TheVariants.{Cover, Bits}
use Rattle.rule_store.specs.declared.Command.{Command}
use Rattle.rule_store.specs.Batch.{ChangesRules}
use Rattle.rule_store.specs.Verdict.{Accepted, verdict}
use Rattle.range_bits.specs.LiveRanges.{no_ranges}
use Rattle.range_bits.proofs.FieldMaps.{IsFieldMap-no_ranges}
use Rattle.tcam_device.specs.State.{State, blank, blank_table}
use Rattle.tcam_device.proofs.Kept.{blank_table-is}
use Rattle.tcam_device.proofs.States.{IsState-blank}
use Rattle.commit_writes.specs.Bits.{FieldBits, no_bits}
use Rattle.commit_writes.specs.Segments.{IsAtRest}
use Rattle.commit_writes.specs.Serving.{AreRangesOf, AreBitsOf, AreTranslated}
use Rattle.readback.specs.Words.{AreRight}
use Rattle.readback.proofs.Accepted.{taken}
use Rattle.trace_check.specs.Behind.{entries_in}
use Rattle.trace_check.specs.Kept.{MayJudge, IsPair}
use Rattle.trace_check.proofs.BegunKept.{translated_at}
use Rattle.trace_check.proofs.Maps.{no_range, maps_of}

-- empty slots have no pieces
none_placed : (n : ℕ) → entries_in (replicate n None) ≡ replicate n None
none_placed zero = refl
none_placed (suc n) = ap (λ (rest : List (Option Entry)). None ∷ rest) (none_placed n)

pub blank_of : (slots : ℕ) (places : List (Option RankedPiece)) (src dst : List ℕ) → places ≡ replicate slots None → src ≡ replicate 65536 0 → dst ≡ replicate 65536 0
    → ◌≡◌ {A = State} (record { slots = entries_in places; src = src; dst = dst }) (blank slots)
blank_of slots places src dst p s d =
    ap (λ (held : List (Option Entry)). let state : State = record { slots = held; src = src; dst = dst } in state) (ap entries_in p ∙ none_placed slots)
    ∙ (ap (λ (table : List ℕ). let state : State = record { slots = replicate slots None; src = table; dst = dst } in state) (s ∙ sym blank_table-is)
    ∙ ap (λ (table : List ℕ). let state : State = record { slots = replicate slots None; src = blank_table; dst = table } in state) (d ∙ sym blank_table-is))

pub none_stands : (n at : ℕ) (entry : Entry) → slot (replicate n None) at ≡ Some entry → ⊥
none_stands zero at entry held = absurd (cc)
none_stands (suc n) zero entry held = absurd (cc)
none_stands (suc n) (suc at) entry held = none_stands n at entry held

no_field : (table : List ℕ) → AreRangesOf [] no_ranges table
no_field table = record {
  field_map = IsFieldMap-no_ranges;
  needed = λ bit range held. absurd (no_range bit 16 range held);
  serves = record {
    places = refl;
    have_bits = λ range member. absurd (contains_none range member);
    translated = λ bit range held. absurd (no_range bit 16 range held);
  };
}

no_bits_of : (mode : Mode) (slots : ℕ) → AreBitsOf mode no_bits [] (blank slots)
no_bits_of Cover slots = refl
no_bits_of Bits slots = (no_field blank_table, no_field blank_table)

-- a blank device has the set without rules at rest
pub blank_rests : (mode : Mode) (slots : ℕ) → IsAtRest mode no_bits [] (blank slots)
blank_rests mode slots = record {
  is_set = tt;
  right = tt;
  is_state = let is = IsState-blank slots in record { size = refl; src_size = is.src_size; dst_size = is.dst_size; src_words = is.src_words; dst_words = is.dst_words };
  bits_are = no_bits_of mode slots;
  ordered = record {
    known = λ at entry held. absurd (none_stands slots at entry held);
    complete = λ ranked member. absurd (contains_none ranked member);
    order = λ i j first second less is_first. absurd (contains_none first is_first);
  };
}

pub blank_alone : (slots : ℕ) → IsPair (blank slots).slots None
blank_alone slots lesser at alike = none_stands slots lesser alike.first alike.here

-- Where a set is at rest an accepted batch can be committed.
pub may_judge : (slots : ℕ) (mode : Mode) (bits : FieldBits) (rules : List Rule) (batch : List Command) (state : State) → IsAtRest mode bits rules state → AllByRecursion ChangesRules batch
    → verdict slots mode rules batch ≡ Accepted → MayJudge mode bits rules batch
may_judge slots mode bits rules batch state rest changes accepted =
    let maps = maps_of mode bits rules state rest.bits_are in
    let t = taken slots mode rules batch accepted in
    let right = translated_at mode bits rules state rest.bits_are in
    record {
      can = record {
        is_set = rest.is_set;
        right = rest.right;
        src_map = maps.src;
        dst_map = maps.dst;
        bits_are = maps.are;
        changes = changes;
        sound = t.sound;
        few = t.few;
      };
      device_slots = length state.slots;
      state = state;
      is = rest.is_state;
      right = words right;
    }
  where
    words : AreTranslated state bits → AreRight bits state
    words right Src port fits bit range held = right.src bit range held port fits
    words right Dst port fits bit range held = right.dst bit range held port fits
