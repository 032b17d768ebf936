-- The ranges of the rules keep their bits while a commit is made, and those of the new set when it has finished: their pieces
-- are the same.
use Rattle.std.proofs.Common.{◌≡◌, ℕ, Option, Some, List, [], ◌∷◌, ◌++◌, Contains, refl, ap, sym, ◌∙◌, subst, inl, inr}
use Rattle.std.specs.Prelude.{flat_map}
use Rattle.std.proofs.lemmas.Bool.{not-true}
use Rattle.slot_order.proofs.Lists.{contains_head, contains_tail}
use Rattle.rule_model.specs.declared.Rule.{Rule}
use Rattle.rule_model.specs.declared.Field.{Field}
use Rattle.rule_model.specs.declared.Field.TheVariants.{Src, Dst}
use Rattle.rule_model.specs.Rule.{range_of}
use Rattle.rule_model.specs.Piece.{whole_piece}
use Rattle.rule_store.specs.declared.Mode.{Mode}
use Rattle.rule_store.specs.declared.Mode.TheVariants.{Cover, Bits}
use Rattle.rule_store.specs.declared.Command.{Command}
use Rattle.rule_store.specs.Batch.{additions, set_after}
use Rattle.rule_store.specs.Verdict.{coded_ranges, new_ranges}
use Rattle.rule_model.specs.Entry.{RankedPiece}
use Rattle.range_bits.specs.LiveRanges.{LiveRanges, range_at, bit_of, with_ranges, kept_ranges}
use Rattle.range_bits.proofs.Changes.{IsFieldMap-kept_ranges}
use Rattle.range_bits.proofs.Given.{AreGiven, bit_of-same, bit_of-with_ranges, kept_ranges-parts}
use Rattle.tcam_device.specs.State.{State}
use Rattle.commit_writes.specs.Bits.{FieldBits, bits_with, bits_left}
use Rattle.commit_writes.specs.Shape.{set_pieces, ranked_pieces}
use Rattle.commit_writes.specs.Serving.{AreRangesOf}
use Rattle.commit_writes.proofs.CodedRanges.{coded_in, in_coded, new_coded, old_not_new}
use Rattle.commit_writes.proofs.ServedTables.{IsBitsStart, field_given}

images_same : {X Y : Type 0} (f g : X → List Y) (xs : List X) → ((x : X) → Contains xs x → f x ≡ g x) → flat_map f xs ≡ flat_map g xs
images_same f g [] same = refl
images_same f g (x ∷ xs) same =
    ap (λ ys. ys ++ flat_map f xs) (same x (contains_head x xs)) ∙ ap (λ ys. g x ++ ys) (images_same f g xs (λ y member. same y (contains_tail x y xs member)))

-- the one piece of a rule, with such bits
abbrev whole_with : Rule → Option ℕ → Option ℕ → List RankedPiece
whole_with rule srcbit dstbit = record { piece = record (whole_piece rule) { srcbit = srcbit; dstbit = dstbit }; rank = rule.priority; result = rule.result } ∷ []

-- where the ranges have the same bits it is the same
whole_same : (before during : FieldBits) (rule : Rule) → bit_of during.src rule.sport ≡ bit_of before.src rule.sport → bit_of during.dst rule.dport ≡ bit_of before.dst rule.dport
    → ranked_pieces during rule (whole_piece rule ∷ []) ≡ ranked_pieces before rule (whole_piece rule ∷ [])
whole_same before during rule src dst =
    ap (λ bit. whole_with rule bit (bit_of during.dst rule.dport)) src ∙ ap (whole_with rule (bit_of before.src rule.sport)) dst

-- a rule's range has the bit that it had, or none as before
rule_bit : (field : Field) (rules : List Rule) (batch : List Command) (live : LiveRanges) (table : List ℕ) (rule : Rule) → AreRangesOf (coded_ranges field rules) live table
    → AreGiven live (new_ranges field rules batch) (with_ranges live (new_ranges field rules batch)) → Contains rules rule
    → bit_of (with_ranges live (new_ranges field rules batch)) (range_of field rule) ≡ bit_of live (range_of field rule)
rule_bit field rules batch live table rule are given member =
    bit_of-with_ranges live (with_ranges live (new_ranges field rules batch)) (new_ranges field rules batch) (range_of field rule) are.field_map given (old_not_new field rules batch rule member)

pub pieces_same : (mode : Mode) (bits : FieldBits) (rules : List Rule) (batch : List Command) (state : State) → IsBitsStart mode bits rules batch state
    → set_pieces mode (bits_with mode rules batch bits) rules ≡ set_pieces mode bits rules
pieces_same Cover bits rules batch state start = refl
pieces_same Bits bits rules batch state start =
    let src = field_given Src rules batch bits.src state.src start.changes start.are.0 start.few.0 in
    let dst = field_given Dst rules batch bits.dst state.dst start.changes start.are.1 start.few.1 in
    images_same (λ rule. ranked_pieces (bits_with Bits rules batch bits) rule (whole_piece rule ∷ [])) (λ rule. ranked_pieces bits rule (whole_piece rule ∷ [])) rules
    (λ rule member. whole_same bits (bits_with Bits rules batch bits) rule
    (rule_bit Src rules batch bits.src state.src rule start.are.0 src member) (rule_bit Dst rules batch bits.dst state.dst rule start.are.1 dst member))

-- a range of the new set keeps its bit when the others give theirs up, or has none as before
later_bit : (field : Field) (rules : List Rule) (batch : List Command) (live : LiveRanges) (table : List ℕ) (later : List Rule) (rule : Rule) → AreRangesOf (coded_ranges field rules) live table
    → AreGiven live (new_ranges field rules batch) (with_ranges live (new_ranges field rules batch)) → Contains later rule
    → bit_of (kept_ranges (with_ranges live (new_ranges field rules batch)) (coded_ranges field later)) (range_of field rule) ≡ bit_of (with_ranges live (new_ranges field rules batch)) (range_of field rule)
later_bit field rules batch live table later rule are given member =
    bit_of-same during (kept_ranges during (coded_ranges field later)) (range_of field rule) given.field_map (IsFieldMap-kept_ranges during (coded_ranges field later) given.field_map) (λ bit. (
      λ held. (kept_ranges-parts during (coded_ranges field later) bit (range_of field rule)).1 (held, coded bit held),
      λ held. ((kept_ranges-parts during (coded_ranges field later) bit (range_of field rule)).0 held).0,
    ))
  where
    during : LiveRanges
    during = with_ranges live (new_ranges field rules batch)

    coded : (bit : ℕ) → range_at during bit ≡ Some (range_of field rule) → Contains (coded_ranges field later) (range_of field rule)
    coded bit held = coded_in field later rule member (not-true _ (elim (given.known bit (range_of field rule) held) [
      | inl old ↦ (in_coded field rules (range_of field rule) (are.needed bit (range_of field rule) old)).3
      | inr new ↦ (in_coded field (additions batch) (range_of field rule) (new_coded field rules batch (range_of field rule) new)).3
    ]))

pub pieces_left : (mode : Mode) (bits : FieldBits) (rules : List Rule) (batch : List Command) (state : State) → IsBitsStart mode bits rules batch state
    → set_pieces mode (bits_left (set_after rules batch) (bits_with mode rules batch bits)) (set_after rules batch) ≡ set_pieces mode (bits_with mode rules batch bits) (set_after rules batch)
pieces_left Cover bits rules batch state start = subst (λ (b : FieldBits). set_pieces Cover (bits_left (set_after rules batch) b) (set_after rules batch) ≡ set_pieces Cover b (set_after rules batch)) (sym start.are) refl
pieces_left Bits bits rules batch state start =
    let src = field_given Src rules batch bits.src state.src start.changes start.are.0 start.few.0 in
    let dst = field_given Dst rules batch bits.dst state.dst start.changes start.are.1 start.few.1 in
    let later = set_after rules batch in
    let during = bits_with Bits rules batch bits in
    images_same (λ rule. ranked_pieces (bits_left later during) rule (whole_piece rule ∷ [])) (λ rule. ranked_pieces during rule (whole_piece rule ∷ [])) later
    (λ rule member. whole_same during (bits_left later during) rule
    (later_bit Src rules batch bits.src state.src later rule start.are.0 src member) (later_bit Dst rules batch bits.dst state.dst later rule start.are.1 dst member))
