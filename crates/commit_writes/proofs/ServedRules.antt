-- Tables that serve some rules serve the pieces of each of them: a range that is no block has a bit, and a bit is set exactly
-- at the ports of its range.
use Rattle.std.proofs.Common.{◌≡◌, ℕ, ◌<◌, Option, None, Some, List, length, IsTrue, IsFalse, IsSome, IfNone, IfSome, Contains, inl, inr, refl, sym, subst, arith}
use Rattle.std.proofs.lemmas.Bool.{cases_Bool}
use Rattle.std.proofs.lemmas.List.Elements.{All-contains}
use Rattle.std.proofs.lemmas.List.Quantifiers.{position-Some}
use Rattle.rule_model.specs.declared.Rule.{Rule}
use Rattle.rule_model.specs.declared.Piece.{Piece}
use Rattle.rule_model.specs.declared.Field.TheVariants.{Src, Dst}
use Rattle.rule_model.specs.PortRange.{PortRange, is_block}
use Rattle.rule_model.specs.Rule.{HasConditions}
use Rattle.rule_model.specs.Piece.{cover_pieces}
use Rattle.rule_model.proofs.CoverPieces.{cover_pieces-blocks}
use Rattle.rule_model.proofs.Parts.{part_of}
use Rattle.rule_store.specs.declared.Mode.{Mode}
use Rattle.rule_store.specs.declared.Mode.TheVariants.{Cover, Bits}
use Rattle.rule_store.specs.declared.Command.{Command}
use Rattle.rule_store.specs.Batch.{with_result_after}
use Rattle.rule_store.specs.Verdict.{pieces_of, coded_ranges}
use Rattle.range_bits.specs.LiveRanges.{LiveRanges, is_range, range_at, bit_of}
use Rattle.range_bits.proofs.FieldMaps.{is_range-is}
use Rattle.tcam_device.specs.State.{State}
use Rattle.tcam_device.specs.Order.{IsTranslated}
use Rattle.commit_writes.specs.Bits.{FieldBits, no_bits, with_bits}
use Rattle.commit_writes.specs.Planned.{IsServedBy}
use Rattle.commit_writes.specs.Serving.{ServesRanges, AreServing}
use Rattle.commit_writes.proofs.CodedRanges.{coded_in}
use Rattle.commit_writes.proofs.ModePieces.{whole_only, pieces_bitless, pieces_right}

-- the range has a bit that is set at its ports, or is one block
pub record IsServedRange (live : LiveRanges) (table : List ℕ) (range : PortRange) : Type 0 where
  pub block : IfNone (bit_of live range) (IsTrue (is_block range))
  pub small : IfSome (bit_of live range) (λ bit. bit < 16)
  pub translated : (bit : ℕ) → bit_of live range ≡ Some bit → IsTranslated table bit range

range_served : (ranges : List PortRange) (live : LiveRanges) (table : List ℕ) (range : PortRange) → ServesRanges ranges live table
    → (IsFalse (is_block range) → Contains ranges range) → IsServedRange live table range
range_served ranges live table range serves coded = record {
  block = elim (cases_Bool (is_block range)) [
    | inl one ↦ where_none (IsTrue (is_block range)) (bit_of live range) one
    | inr none ↦ where_some (IsTrue (is_block range)) (bit_of live range) (serves.have_bits range (coded none))
  ];
  small = where_bit (λ bit. bit < 16) (bit_of live range) (λ bit is. let inside = (found bit is).0 in let size = serves.places in omega arith);
  translated = λ bit is. serves.translated bit range (found bit is).1;
}
  where
    found : (bit : ℕ) → bit_of live range ≡ Some bit → (bit < length live) × (range_at live bit ≡ Some range)
    found bit is = let w = position-Some (is_range range) live bit None is in (w.0, is_range-is range (range_at live bit) w.1)

    where_none : (P : Type 0) (bit : Option ℕ) → P → IfNone bit P
    where_none P None holds = holds
    where_none P (Some bit) holds = tt

    where_some : (P : Type 0) (bit : Option ℕ) → IsSome bit → IfNone bit P
    where_some P None some = absurd (cc)
    where_some P (Some bit) some = tt

    where_bit : (P : ℕ → Type 0) (bit : Option ℕ) → ((b : ℕ) → bit ≡ Some b → P b) → IfSome bit P
    where_bit P None each = tt
    where_bit P (Some bit) each = each bit refl

-- the tables serve the ranges of a rule, of which they know neither its priority nor its result
abbrev pub IsServedRule : Mode → FieldBits → State → Rule → Type 0
IsServedRule Cover bits state rule = bits ≡ no_bits
IsServedRule Bits bits state rule = IsServedRange bits.src state.src rule.sport × IsServedRange bits.dst state.dst rule.dport

pub rule_served : (mode : Mode) (bits : FieldBits) (state : State) (rules : List Rule) (rule : Rule) → AreServing mode bits rules state → Contains rules rule
    → IsServedRule mode bits state rule
rule_served Cover bits state rules rule serving member = serving
rule_served Bits bits state rules rule serving member = (
  range_served (coded_ranges Src rules) bits.src state.src rule.sport serving.0 (coded_in Src rules rule member),
  range_served (coded_ranges Dst rules) bits.dst state.dst rule.dport serving.1 (coded_in Dst rules rule member),
)

pub served_after : (mode : Mode) (bits : FieldBits) (state : State) (batch : List Command) (rule : Rule) → IsServedRule mode bits state rule
    → IsServedRule mode bits state (with_result_after batch rule)
served_after Cover bits state batch rule served = served
served_after Bits bits state batch rule served = served

-- so they serve its pieces
pub piece_served : (mode : Mode) (bits : FieldBits) (state : State) (rule : Rule) (piece : Piece) (rank answer : ℕ) → HasConditions rule → IsServedRule mode bits state rule
    → Contains (pieces_of mode rule) piece → IsServedBy state (record { piece = with_bits bits piece; rank = rank; result = answer })
piece_served Cover bits state rule piece rank answer right served member =
    subst (λ b. IsServedBy state (record { piece = with_bits b piece; rank = rank; result = answer })) (sym served)
    (subst (λ p. IsServedBy state (record { piece = p; rank = rank; result = answer })) (sym plain) (record {
      right = pieces_right Cover rule piece right member;
      encodable = record {
        sport = subst (λ bit. IfNone bit (IsTrue (is_block piece.sport))) (sym clear.0) blocks.0;
        dport = subst (λ bit. IfNone bit (IsTrue (is_block piece.dport))) (sym clear.1) blocks.1;
        srcbit = subst (λ bit. IfSome bit (λ b. b < 16)) (sym clear.0) tt;
        dstbit = subst (λ bit. IfSome bit (λ b. b < 16)) (sym clear.1) tt;
      };
      srcbits = λ bit is. absurd (let none = clear.0 in cc);
      dstbits = λ bit is. absurd (let none = clear.1 in cc);
    }))
  where
    clear : (piece.srcbit ≡ None) × (piece.dstbit ≡ None)
    clear = pieces_bitless Cover rule piece member

    plain : with_bits no_bits piece ≡ piece
    plain = let w = part_of rule piece member in subst (λ p. with_bits no_bits p ≡ p) w.2 refl

    blocks : IsTrue (is_block piece.sport) × IsTrue (is_block piece.dport)
    blocks = All-contains (λ p. IsTrue (is_block p.sport) × IsTrue (is_block p.dport)) (cover_pieces rule) piece (cover_pieces-blocks rule right) member
piece_served Bits bits state rule piece rank answer right served member =
    subst (λ p. IsServedBy state (record { piece = with_bits bits p; rank = rank; result = answer })) (whole_only rule piece member) (record {
      right = right;
      encodable = record { sport = served.0.block; dport = served.1.block; srcbit = served.0.small; dstbit = served.1.small };
      srcbits = served.0.translated;
      dstbits = served.1.translated;
    })
