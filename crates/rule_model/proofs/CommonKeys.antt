-- The tests for overlaps are exact.
use Rattle.std.proofs.Common.{◌≡◌, ℕ, ◌<◌, ◌^◌, Bool, true, false, not, ◌&&◌, IsTrue, ◌↔◌, Option, Some, None, IfSome, refl, arith, sym, ◌∙◌, subst, eqb-true, eq-eqb}
use Rattle.std.proofs.lemmas.Bool.{and_parts, and_from}
use Rattle.rule_model.specs.declared.Key.{Key}
use Rattle.rule_model.specs.declared.Piece.{Piece}
use Rattle.rule_model.specs.AddressBlock.{BlocksOverlap, block_holds}
use Rattle.rule_model.specs.PortRange.{RangesOverlap, range_holds, is_disjoint}
use Rattle.rule_model.specs.Rule.{AreConditions, ProtosOverlap, proto_holds, protos_meet, blocks_meet}
use Rattle.rule_model.specs.Piece.{PiecesOverlap, pieces_meet}
use Rattle.rule_model.proofs.Prefixes.{blocks_meet-is}
use Rattle.rule_model.proofs.PortRanges.{ranges_meet-is}

-- five tests that all pass
five_parts : (a b c d e : Bool) → IsTrue (a && b && c && d && e) → IsTrue a × IsTrue b × IsTrue c × IsTrue d × IsTrue e
five_parts a b c d e all =
    let four = and_parts (a && b && c && d) e all in
    let three = and_parts (a && b && c) d four.0 in
    let two = and_parts (a && b) c three.0 in
    let one = and_parts a b two.0 in
    (one.0, one.1, two.1, three.1, four.1)

five_from : (a b c d e : Bool) → IsTrue a → IsTrue b → IsTrue c → IsTrue d → IsTrue e → IsTrue (a && b && c && d && e)
five_from a b c d e is_a is_b is_c is_d is_e = and_from _ _ (and_from _ _ (and_from _ _ (and_from _ _ is_a is_b) is_c) is_d) is_e

-- the test for a common protocol is exact
pub protos_meet-is : (a b : Option ℕ) → IfSome a (λ number. number < 2 ^ 8) → IfSome b (λ number. number < 2 ^ 8) → IsTrue (protos_meet a b) ↔ ProtosOverlap a b
protos_meet-is None None small_a small_b = (λ _. (0, omega arith, refl, refl), λ _. refl)
protos_meet-is None (Some proto) small_a small_b = (λ _. (proto, small_b, refl, eq-eqb _ _ refl), λ _. refl)
protos_meet-is (Some proto) other small_a small_b = (λ held. (proto, small_a, eq-eqb _ _ refl, held), from)
  where
    from : ProtosOverlap (Some proto) other → IsTrue (proto_holds other proto)
    from (shared, small, first, second) = subst (λ (n : ℕ). IsTrue (proto_holds other n)) (sym (eqb-true proto shared first)) second

-- what two pieces that overlap have in common
pub overlap_parts : (a b : Piece) → PiecesOverlap a b
    → BlocksOverlap a.src b.src × BlocksOverlap a.dst b.dst × ProtosOverlap a.proto b.proto × RangesOverlap a.sport b.sport × RangesOverlap a.dport b.dport
overlap_parts a b (key, right, first, second) =
    let in_a = five_parts (block_holds a.src key.src) (block_holds a.dst key.dst) (proto_holds a.proto key.proto) (range_holds a.sport key.sport) (range_holds a.dport key.dport) first in
    let in_b = five_parts (block_holds b.src key.src) (block_holds b.dst key.dst) (proto_holds b.proto key.proto) (range_holds b.sport key.sport) (range_holds b.dport key.dport) second in (
      (key.src, right.src, in_a.0, in_b.0),
      (key.dst, right.dst, in_a.1, in_b.1),
      (key.proto, right.proto, in_a.2, in_b.2),
      (key.sport, right.sport, in_a.3, in_b.3),
      (key.dport, right.dport, in_a.4, in_b.4),
    )

-- pieces that have something in common in each condition overlap
pub overlap_from : (a b : Piece) → BlocksOverlap a.src b.src → BlocksOverlap a.dst b.dst → ProtosOverlap a.proto b.proto
    → RangesOverlap a.sport b.sport → RangesOverlap a.dport b.dport → PiecesOverlap a b
overlap_from a b src dst proto sport dport =
    let key : Key = record { src = src.0; dst = dst.0; proto = proto.0; sport = sport.0; dport = dport.0 } in (
      key,
      record { src = src.1; dst = dst.1; proto = proto.1; sport = sport.1; dport = dport.1 },
      five_from (block_holds a.src key.src) (block_holds a.dst key.dst) (proto_holds a.proto key.proto) (range_holds a.sport key.sport) (range_holds a.dport key.dport) src.2 dst.2 proto.2 sport.2 dport.2,
      five_from (block_holds b.src key.src) (block_holds b.dst key.dst) (proto_holds b.proto key.proto) (range_holds b.sport key.sport) (range_holds b.dport key.dport) src.3 dst.3 proto.3 sport.3 dport.3,
    )

-- the test for a common key is exact, of pieces whose conditions are right
pub pieces_meet-is : (a b : Piece) → AreConditions a.src a.dst a.proto a.sport a.dport → AreConditions b.src b.dst b.proto b.sport b.dport
    → IsTrue (pieces_meet a b) ↔ PiecesOverlap a b
pieces_meet-is a b right_a right_b = (to, from)
  where
    to : IsTrue (pieces_meet a b) → PiecesOverlap a b
    to meet =
        let parts = five_parts (blocks_meet a.src b.src) (blocks_meet a.dst b.dst) (protos_meet a.proto b.proto) (not (is_disjoint a.sport b.sport)) (not (is_disjoint a.dport b.dport)) meet in
        overlap_from a b
        ((blocks_meet-is a.src b.src right_a.src_right right_b.src_right).0 parts.0)
        ((blocks_meet-is a.dst b.dst right_a.dst_right right_b.dst_right).0 parts.1)
        ((protos_meet-is a.proto b.proto right_a.proto_right right_b.proto_right).0 parts.2)
        ((ranges_meet-is a.sport b.sport right_a.sport_right right_b.sport_right).0 parts.3)
        ((ranges_meet-is a.dport b.dport right_a.dport_right right_b.dport_right).0 parts.4)

    from : PiecesOverlap a b → IsTrue (pieces_meet a b)
    from overlap =
        let parts = overlap_parts a b overlap in
        five_from (blocks_meet a.src b.src) (blocks_meet a.dst b.dst) (protos_meet a.proto b.proto) (not (is_disjoint a.sport b.sport)) (not (is_disjoint a.dport b.dport))
        ((blocks_meet-is a.src b.src right_a.src_right right_b.src_right).1 parts.0)
        ((blocks_meet-is a.dst b.dst right_a.dst_right right_b.dst_right).1 parts.1)
        ((protos_meet-is a.proto b.proto right_a.proto_right right_b.proto_right).1 parts.2)
        ((ranges_meet-is a.sport b.sport right_a.sport_right right_b.sport_right).1 parts.3)
        ((ranges_meet-is a.dport b.dport right_a.dport_right right_b.dport_right).1 parts.4)

-- the parts of `&&`, each with what it tells: the second is asked where the first one passes
pub and_then : {P Q : Type 0} (first second value : Bool) → IsTrue first ↔ P → first ≡ true → IsTrue second ↔ Q → value ≡ second → IsTrue value ↔ (P × Q)
and_then first second value tells passes more is =
    (λ t. (tells.0 passes, more.0 (sym is ∙ t)), λ both. is ∙ more.1 both.1)

pub and_else : {P Q : Type 0} (first value : Bool) → IsTrue first ↔ P → first ≡ false → value ≡ first → IsTrue value ↔ (P × Q)
and_else first value tells fails is =
    (λ t. let wrong : false ≡ true = sym fails ∙ sym is ∙ t in cc, λ both. is ∙ tells.1 both.0)

-- what is common in the addresses, in the protocols too, and in the source ports too
abbrev pub MeetInAddresses : Piece → Piece → Type 0
MeetInAddresses a b = BlocksOverlap a.src b.src × BlocksOverlap a.dst b.dst

abbrev pub MeetInProtos : Piece → Piece → Type 0
MeetInProtos a b = MeetInAddresses a b × ProtosOverlap a.proto b.proto

abbrev pub MeetInSources : Piece → Piece → Type 0
MeetInSources a b = MeetInProtos a b × RangesOverlap a.sport b.sport

-- pieces overlap exactly where they have something in common in each condition
pub overlap-is : (a b : Piece) → (MeetInSources a b × RangesOverlap a.dport b.dport) ↔ PiecesOverlap a b
overlap-is a b = (together, apart)
  where
    together : MeetInSources a b × RangesOverlap a.dport b.dport → PiecesOverlap a b
    together parts = overlap_from a b parts.0.0.0.0 parts.0.0.0.1 parts.0.0.1 parts.0.1 parts.1

    apart : PiecesOverlap a b → MeetInSources a b × RangesOverlap a.dport b.dport
    apart overlap = let parts = overlap_parts a b overlap in ((((parts.0, parts.1), parts.2), parts.3), parts.4)
