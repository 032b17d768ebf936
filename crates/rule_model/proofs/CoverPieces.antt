-- The pieces of a rule by prefix covers: how many, what they match, and that they are apart.
use Rattle.std.proofs.Common.{◌≡◌, ℕ, ◌*◌, Bool, ◌&&◌, length, All, AllPairs, IsTrue, refl, sym, ◌∙◌, subst, ap₂, arith}
use Rattle.std.specs.List.{list_any}
use Rattle.std.proofs.lemmas.Bool.{and_parts}
use Rattle.std.proofs.lemmas.List.Elements.{All-weaker}
use Rattle.rule_model.specs.declared.Key.{Key}
use Rattle.rule_model.specs.declared.Rule.{Rule}
use Rattle.rule_model.specs.declared.Piece.{Piece}
use Rattle.rule_model.specs.Key.{IsKey}
use Rattle.rule_model.specs.AddressBlock.{block_holds}
use Rattle.rule_model.specs.PortRange.{PortRange, range_holds, is_block, cover, cover_size}
use Rattle.rule_model.specs.Rule.{proto_holds, AreConditions, HasConditions, rule_matches}
use Rattle.rule_model.specs.Piece.{piece_matches, PiecesOverlap, piece_of, cover_pieces}
use Rattle.rule_model.proofs.Pairs.{length-products, all_products, pairs_products, any_products}
use Rattle.rule_model.proofs.Covers.{Rises, blocks_rise, held_low, held_high, cover-holds}
use Rattle.rule_model.proofs.CoverBlocks.{IsBlockOf, cover_blocks}

-- as many pieces as the product of the covers' sizes
pub length-cover_pieces : (rule : Rule) → length (cover_pieces rule) ≡ cover_size rule.sport * cover_size rule.dport
length-cover_pieces rule = length-products (piece_of rule) (cover rule.sport) (cover rule.dport)

-- the pieces match exactly the rule's keys
pub piece_matches-cover : (rule : Rule) (key : Key) → IsKey key → HasConditions rule → list_any (λ p. piece_matches p key) (cover_pieces rule) ≡ rule_matches rule key
piece_matches-cover rule key fits right =
    any_products others (λ s. range_holds s key.sport) (λ d. range_holds d key.dport) (piece_of rule) (λ p. piece_matches p key) (λ s d. refl) (cover rule.sport) (cover rule.dport)
    ∙ ap₂ (λ (s d : Bool). others && s && d) (cover-holds rule.sport key.sport right.sport_right fits.sport) (cover-holds rule.dport key.dport right.dport_right fits.dport)
  where
    others : Bool
    others = block_holds rule.src key.src && block_holds rule.dst key.dst && proto_holds rule.proto key.proto

-- A piece of a rule's covers: the rule's part with one block of each range, and no bits.
pub record IsCoverPiece (rule : Rule) (piece : Piece) : Type 0 where
  pub is_part : piece ≡ piece_of rule piece.sport piece.dport
  pub source : IsBlockOf rule.sport piece.sport
  pub destination : IsBlockOf rule.dport piece.dport

pub cover_pieces-are : (rule : Rule) → HasConditions rule → All (IsCoverPiece rule) (cover_pieces rule)
cover_pieces-are rule right =
    all_products (IsCoverPiece rule) (piece_of rule) (cover rule.sport) (cover rule.dport)
    (All-weaker (IsBlockOf rule.sport) (λ s. All (λ d. IsCoverPiece rule (piece_of rule s d)) (cover rule.dport)) each (cover rule.sport) (cover_blocks rule.sport right.sport_right))
  where
    each : (s : PortRange) → IsBlockOf rule.sport s → All (λ d. IsCoverPiece rule (piece_of rule s d)) (cover rule.dport)
    each s source =
        All-weaker (IsBlockOf rule.dport) (λ d. IsCoverPiece rule (piece_of rule s d))
        (λ d destination. record { is_part = refl; source = source; destination = destination }) (cover rule.dport) (cover_blocks rule.dport right.dport_right)

-- each piece has right conditions
pub cover_pieces-right : (rule : Rule) → HasConditions rule → All (λ p. AreConditions p.src p.dst p.proto p.sport p.dport) (cover_pieces rule)
cover_pieces-right rule right = All-weaker (IsCoverPiece rule) (λ p. AreConditions p.src p.dst p.proto p.sport p.dport) (λ p is. conditions p is) (cover_pieces rule) (cover_pieces-are rule right)
  where
    conditions : (p : Piece) → IsCoverPiece rule p → AreConditions p.src p.dst p.proto p.sport p.dport
    conditions p is =
        subst (λ z. AreConditions z.src z.dst z.proto z.sport z.dport) (sym is.is_part) (record {
          src_right = right.src_right;
          dst_right = right.dst_right;
          proto_right = right.proto_right;
          sport_right = is.source.right;
          dport_right = is.destination.right;
        })

-- and one block of ports in each field
pub cover_pieces-blocks : (rule : Rule) → HasConditions rule → All (λ p. IsTrue (is_block p.sport) × IsTrue (is_block p.dport)) (cover_pieces rule)
cover_pieces-blocks rule right = All-weaker (IsCoverPiece rule) (λ p. IsTrue (is_block p.sport) × IsTrue (is_block p.dport)) (λ p is. (is.source.is_one, is.destination.is_one)) (cover_pieces rule) (cover_pieces-are rule right)

-- ranges one after the other hold no port together
no_port : (a b : PortRange) (port : ℕ) → Rises a b → IsTrue (range_holds a port) → IsTrue (range_holds b port) → ⊥
no_port a b port rises left right = let high = held_high a port left in let low = held_low b port right in omega arith

-- no key matches two pieces of one rule
pub cover_pieces-disjoint : (rule : Rule) → AllPairs (λ a b. PiecesOverlap a b → ⊥) (cover_pieces rule)
cover_pieces-disjoint rule =
    pairs_products (λ a b. PiecesOverlap a b → ⊥) Rises Rises (piece_of rule) (cover rule.sport) (cover rule.dport)
    (λ s s' d d' rises (key, fits, left, right). no_port s s' key.sport rises (by_sport s d key left) (by_sport s' d' key right))
    (λ s d d' rises (key, fits, left, right). no_port d d' key.dport rises (by_dport s d key left) (by_dport s d' key right))
    (blocks_rise rule.sport 16 0 refl) (blocks_rise rule.dport 16 0 refl)
  where
    by_dport : (s d : PortRange) (key : Key) → IsTrue (piece_matches (piece_of rule s d) key) → IsTrue (range_holds d key.dport)
    by_dport s d key t = (and_parts _ (range_holds d key.dport) t).1

    by_sport : (s d : PortRange) (key : Key) → IsTrue (piece_matches (piece_of rule s d) key) → IsTrue (range_holds s key.sport)
    by_sport s d key t = (and_parts _ (range_holds s key.sport) (and_parts _ (range_holds d key.dport) t).0).1
