-- The pieces of a rule by covers, one by one: the test of two is exact, they are apart, they have no bits, and they match no
-- other keys.
use Rattle.std.proofs.Common.{◌≡◌, ℕ, ◌+◌, ◌^◌, ◌<◌, true, ◌&&◌, length, get_or, Option, Some, None, IsTrue, Contains, refl, sym, ap, subst, ◌∙◌, arith, eqb-true, eq-eqb, nat_eq, All, AllPairs}
use Rattle.std.proofs.lemmas.Bool.{and_parts, and_from}
use Rattle.std.proofs.lemmas.Nat.{pow_pos}
use Rattle.std.proofs.lemmas.List.Elements.{All-contains}
use Rattle.std.proofs.lemmas.List.Folds.{list_any-from_Any}
use Rattle.rule_model.specs.declared.Key.{Key}
use Rattle.rule_model.specs.declared.Rule.{Rule}
use Rattle.rule_model.specs.declared.Piece.{Piece}
use Rattle.rule_model.specs.Key.{IsKey}
use Rattle.rule_model.specs.AddressBlock.{AddressBlock, same_block}
use Rattle.rule_model.specs.PortRange.{PortRange, same_range, cover}
use Rattle.rule_model.specs.Rule.{HasConditions, rule_matches}
use Rattle.rule_model.specs.Piece.{same_piece, same_proto, piece_matches, piece_of, cover_pieces}
use Rattle.rule_model.proofs.Pairs.{all_products, pairs_products}
use Rattle.rule_model.proofs.CoverMembers.{members}
use Rattle.rule_model.proofs.Covers.{blocks_rise}
use Rattle.rule_model.proofs.CoverPieces.{piece_matches-cover}

-- the test of two pieces
pub same_piece-self : (piece : Piece) → same_piece piece piece ≡ true
same_piece-self piece =
    and_from _ _ (and_from _ _ (and_from _ _ (and_from _ _ (both piece.src.addr piece.src.len) (both piece.dst.addr piece.dst.len)) (proto piece.proto))
    (both piece.sport.lo piece.sport.hi)) (both piece.dport.lo piece.dport.hi)
  where
    both : (a b : ℕ) → (nat_eq a a && nat_eq b b) ≡ true
    both a b = and_from _ _ (eq-eqb a a refl) (eq-eqb b b refl)

    proto : (p : Option ℕ) → same_proto p p ≡ true
    proto None = refl
    proto (Some number) = eq-eqb number number refl

pub same_piece-is : (a b : Piece) → a.srcbit ≡ b.srcbit → a.dstbit ≡ b.dstbit → same_piece a b ≡ true → a ≡ b
same_piece-is a b srcbit dstbit same =
    let four = and_parts (same_block a.src b.src && same_block a.dst b.dst && same_proto a.proto b.proto && same_range a.sport b.sport) (same_range a.dport b.dport) same in
    let three = and_parts (same_block a.src b.src && same_block a.dst b.dst && same_proto a.proto b.proto) (same_range a.sport b.sport) four.0 in
    let two = and_parts (same_block a.src b.src && same_block a.dst b.dst) (same_proto a.proto b.proto) three.0 in
    let one = and_parts (same_block a.src b.src) (same_block a.dst b.dst) two.0 in
    ap (λ x. record a { src = x }) (block a.src b.src one.0)
    ∙ (ap (λ x. record a { src = b.src; dst = x }) (block a.dst b.dst one.1)
    ∙ (ap (λ x. record a { src = b.src; dst = b.dst; proto = x }) (proto a.proto b.proto two.1)
    ∙ (ap (λ x. record a { src = b.src; dst = b.dst; proto = b.proto; sport = x }) (range a.sport b.sport three.1)
    ∙ (ap (λ x. record b { dport = x; srcbit = a.srcbit; dstbit = a.dstbit }) (range a.dport b.dport four.1)
    ∙ (ap (λ x. record b { srcbit = x; dstbit = a.dstbit }) srcbit ∙ ap (λ x. record b { dstbit = x }) dstbit)))))
  where
    block : (x y : AddressBlock) → same_block x y ≡ true → x ≡ y
    block x y e =
        let parts = and_parts (nat_eq x.addr y.addr) (nat_eq x.len y.len) e in
        ap (λ z. record x { addr = z }) (eqb-true _ _ parts.0) ∙ ap (λ z. record y { len = z }) (eqb-true _ _ parts.1)

    range : (x y : PortRange) → same_range x y ≡ true → x ≡ y
    range x y e =
        let parts = and_parts (nat_eq x.lo y.lo) (nat_eq x.hi y.hi) e in
        ap (λ z. record x { lo = z }) (eqb-true _ _ parts.0) ∙ ap (λ z. record y { hi = z }) (eqb-true _ _ parts.1)

    proto : (x y : Option ℕ) → same_proto x y ≡ true → x ≡ y
    proto None None e = refl
    proto None (Some y) e = absurd (cc)
    proto (Some x) None e = absurd (cc)
    proto (Some x) (Some y) e = ap (λ z. Some z) (eqb-true x y e)

-- the blocks of a cover are apart, so a rule's pieces are
apart_blocks : (a b : PortRange) (level : ℕ) → a.hi < b.lo → a.hi + 1 ≡ a.lo + 2 ^ level → a ≡ b → ⊥
apart_blocks a b level rises size same =
    let some = pow_pos level in
    let low : a.lo ≡ b.lo = ap (λ (r : PortRange). r.lo) same in
    omega arith

before : (i j n : ℕ) → i < j → j < n → i < n
before i j n less inside = omega arith

cover-apart : (range : PortRange) → AllPairs (λ a b. a ≡ b → ⊥) (cover range)
cover-apart range i j d less inside =
    let block = members range 16 0 refl i d (before i j (length (cover range)) less inside) in
    apart_blocks (get_or (cover range) i d) (get_or (cover range) j d) block.level (blocks_rise range 16 0 refl i j d less inside) block.size

pub cover_pieces-apart : (rule : Rule) → AllPairs (λ a b. a ≡ b → ⊥) (cover_pieces rule)
cover_pieces-apart rule =
    pairs_products (λ a b. a ≡ b → ⊥) (λ a b. a ≡ b → ⊥) (λ a b. a ≡ b → ⊥) (piece_of rule) (cover rule.sport) (cover rule.dport)
    (λ s s' d d' differ same. differ (ap (λ (p : Piece). p.sport) same))
    (λ s d d' differ same. differ (ap (λ (p : Piece). p.dport) same))
    (cover-apart rule.sport) (cover-apart rule.dport)

-- the rule's part with some ranges
abbrev pub IsPart : Rule → Piece → Type 0
IsPart rule piece = (sport : PortRange) × (dport : PortRange) × (piece_of rule sport dport ≡ piece)

-- a piece by covers is one
pub part_of : (rule : Rule) (piece : Piece) → Contains (cover_pieces rule) piece → IsPart rule piece
part_of rule piece member = All-contains (IsPart rule) (cover_pieces rule) piece all member
  where
    all : All (IsPart rule) (cover_pieces rule)
    all = all_products (IsPart rule) (piece_of rule) (cover rule.sport) (cover rule.dport)
        (λ k s within j d inside. (get_or (cover rule.sport) k s, get_or (cover rule.dport) j d, refl))

-- without bits
abbrev pub IsBitless : Piece → Type 0
IsBitless piece = (piece.srcbit ≡ None) × (piece.dstbit ≡ None)

pub part_bitless : (rule : Rule) (piece : Piece) → Contains (cover_pieces rule) piece → IsBitless piece
part_bitless rule piece member = let w = part_of rule piece member in subst IsBitless w.2 (refl, refl)

-- a rule matches what its pieces match
pub piece_inside : (rule : Rule) (piece : Piece) (key : Key) → HasConditions rule → Contains (cover_pieces rule) piece → IsKey key → IsTrue (piece_matches piece key) → IsTrue (rule_matches rule key)
piece_inside rule piece key right has valid matched =
    sym (piece_matches-cover rule key valid right) ∙ list_any-from_Any (λ p. piece_matches p key) (cover_pieces rule) (has.0, piece, has.1, has.2, matched)
