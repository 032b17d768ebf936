-- The pieces that a rule is cut into, by covers or whole: each has right conditions and no bits, and matches what the rule
-- does; no two are the same, and no two overlap. And with bits they are told apart as without.
use Rattle.std.proofs.Common.{◌≡◌, true, List, [], ◌∷◌, Option, None, ℕ, IsTrue, Contains, AllPairs, inl, inr, refl, sym, ap, subst, ◌∙◌, arith}
use Rattle.std.proofs.lemmas.List.Elements.{All-contains}
use Rattle.slot_order.proofs.Lists.{contains_head, contains_cases, contains_none, any_is}
use Rattle.rule_model.specs.declared.Key.{Key}
use Rattle.rule_model.specs.declared.Rule.{Rule}
use Rattle.rule_model.specs.declared.Piece.{Piece}
use Rattle.rule_model.specs.Key.{IsKey}
use Rattle.rule_model.specs.Rule.{AreConditions, HasConditions, route_rule, rule_matches}
use Rattle.rule_model.specs.Piece.{PiecesOverlap, piece_matches, same_piece, cover_pieces, whole_piece}
use Rattle.rule_model.proofs.CoverPieces.{piece_matches-cover, cover_pieces-right, cover_pieces-disjoint}
use Rattle.rule_model.proofs.Parts.{IsBitless, part_bitless, piece_inside, cover_pieces-apart, same_piece-is}
use Rattle.rule_store.specs.declared.Mode.{Mode}
use Rattle.rule_store.specs.declared.Mode.TheVariants.{Cover, Bits}
use Rattle.rule_store.specs.declared.Command.{Command}
use Rattle.rule_store.specs.Batch.{with_result_after}
use Rattle.rule_store.specs.Verdict.{pieces_of, has_piece}
use Rattle.rule_store.proofs.PieceTests.{has_piece-is}
use Rattle.commit_writes.specs.Bits.{FieldBits, with_bits}

-- a whole rule is its only piece
pub whole_only : (rule : Rule) (piece : Piece) → Contains (pieces_of Bits rule) piece → whole_piece rule ≡ piece
whole_only rule piece member = elim (contains_cases (whole_piece rule) piece [] member) [
  | inl same ↦ same
  | inr none ↦ absurd (contains_none piece none)
]

-- with another result a rule has the same pieces
pub pieces_after : (mode : Mode) (batch : List Command) (rule : Rule) → pieces_of mode (with_result_after batch rule) ≡ pieces_of mode rule
pieces_after Cover batch rule = refl
pieces_after Bits batch rule = refl

pub pieces_bitless : (mode : Mode) (rule : Rule) (piece : Piece) → Contains (pieces_of mode rule) piece → IsBitless piece
pieces_bitless Cover rule piece member = part_bitless rule piece member
pieces_bitless Bits rule piece member = subst IsBitless (whole_only rule piece member) (refl, refl)

pub pieces_right : (mode : Mode) (rule : Rule) (piece : Piece) → HasConditions rule → Contains (pieces_of mode rule) piece
    → AreConditions piece.src piece.dst piece.proto piece.sport piece.dport
pieces_right Cover rule piece right member =
    All-contains (λ p. AreConditions p.src p.dst p.proto p.sport p.dport) (cover_pieces rule) piece (cover_pieces-right rule right) member
pieces_right Bits rule piece right member = subst (λ p. AreConditions p.src p.dst p.proto p.sport p.dport) (whole_only rule piece member) right

-- a rule matches what its pieces match,
pub piece_within : (mode : Mode) (rule : Rule) (piece : Piece) (key : Key) → HasConditions rule → Contains (pieces_of mode rule) piece → IsKey key
    → IsTrue (piece_matches piece key) → IsTrue (rule_matches rule key)
piece_within Cover rule piece key right member valid matched = piece_inside rule piece key right member valid matched
piece_within Bits rule piece key right member valid matched = subst (λ p. IsTrue (piece_matches p key)) (sym (whole_only rule piece member)) matched

-- and of what it matches one of them does
pub piece_for : (mode : Mode) (rule : Rule) (key : Key) → HasConditions rule → IsKey key → IsTrue (rule_matches rule key)
    → (piece : Piece) × Contains (pieces_of mode rule) piece × IsTrue (piece_matches piece key)
piece_for Cover rule key right valid matched = any_is (λ p. piece_matches p key) (cover_pieces rule) (piece_matches-cover rule key valid right ∙ matched)
piece_for Bits rule key right valid matched = (whole_piece rule, contains_head (whole_piece rule) [], matched)

pub pieces_apart : (mode : Mode) (rule : Rule) → AllPairs (λ a b. a ≡ b → ⊥) (pieces_of mode rule)
pieces_apart Cover rule = cover_pieces-apart rule
pieces_apart Bits rule = λ i j d less inside. absurd (omega arith)

pub pieces_disjoint : (mode : Mode) (rule : Rule) → AllPairs (λ a b. PiecesOverlap a b → ⊥) (pieces_of mode rule)
pieces_disjoint Cover rule = cover_pieces-disjoint rule
pieces_disjoint Bits rule = λ i j d less inside. absurd (omega arith)

-- a route has one piece either way
pub route_whole : (mode : Mode) (rule : Rule) (piece : Piece) → rule ≡ route_rule rule.priority rule.dst rule.result → Contains (pieces_of mode rule) piece → whole_piece rule ≡ piece
route_whole Cover rule piece route member = whole_only rule piece (subst (λ pieces. Contains pieces piece) one member)
  where
    one : cover_pieces rule ≡ whole_piece rule ∷ []
    one = subst (λ r. cover_pieces r ≡ whole_piece r ∷ []) (sym route) refl
route_whole Bits rule piece route member = whole_only rule piece member

-- the test for a piece among them is exact
pub has_piece-member : (mode : Mode) (rule : Rule) (piece : Piece) → IsBitless piece → has_piece (pieces_of mode rule) piece ≡ true → Contains (pieces_of mode rule) piece
has_piece-member Cover rule piece bitless has = has_piece-is rule piece bitless has
has_piece-member Bits rule piece bitless has =
    let w = any_is (same_piece piece) (whole_piece rule ∷ []) has in
    let whole = pieces_bitless Bits rule w.0 w.1 in
    subst (Contains (whole_piece rule ∷ [])) (sym (same_piece-is piece w.0 (bitless.0 ∙ sym whole.0) (bitless.1 ∙ sym whole.1) w.2)) w.1

-- two pieces without bits are one where they are with their bits
pub with_bits-one : (bits : FieldBits) (a b : Piece) → IsBitless a → IsBitless b → with_bits bits a ≡ with_bits bits b → a ≡ b
with_bits-one bits a b clear_a clear_b same = sym (bare a clear_a) ∙ (ap without_bits same ∙ bare b clear_b)
  where
    without_bits : Piece → Piece
    without_bits piece = record piece { srcbit = None; dstbit = None }

    bare : (piece : Piece) → IsBitless piece → without_bits piece ≡ piece
    bare piece clear =
        ap (λ (bit : Option ℕ). record piece { srcbit = bit; dstbit = None }) (sym clear.0) ∙ ap (λ (bit : Option ℕ). record piece { dstbit = bit }) (sym clear.1)
