-- Of two routes with different destinations one is above the other exactly where it lies strictly inside.
use Rattle.std.proofs.Common.{◌≡◌, ℕ, ◌/◌, ◌^◌, ◌<◌, ◌≤◌, true, Option, None, Some, arith, inl, inr, refl, sym, ◌∙◌, ap, ap₂, eqb-true, eq-eqb}
use Rattle.std.specs.Prelude.{not, is_none, nat_le}
use Rattle.std.proofs.lemmas.Bool.{and_parts, and_from, cases_lt, cond-false, lt-ltb, ltb-true, lt-leb}
use Rattle.rule_model.specs.AddressBlock.{AddressBlock, any_address, block_holds, same_block}
use Rattle.rule_model.specs.PortRange.{PortRange, any_port, is_disjoint, same_range}
use Rattle.rule_model.specs.Rank.{high_of}
use Rattle.rule_model.specs.Rule.{blocks_meet, protos_meet}
use Rattle.rule_model.specs.Piece.{pieces_meet}
use Rattle.prefix_trie.specs.Blocks.{IsInside}
use Rattle.prefix_trie.specs.Nested.{AreNested}
use Rattle.prefix_trie.proofs.Halves.{covers-one, covers-trans}
use Rattle.placement.specs.declared.LivePiece.{LivePiece}
use Rattle.placement.specs.Live.{is_over}
use Rattle.overlap_index.specs.Routed.{IsRoute, is_route}
use Rattle.overlap_index.proofs.Known.{over_nested}

-- the test of a route, in parts
record RouteParts (one : LivePiece) : Type 0 where
  high : high_of one.rank ≡ one.piece.dst.len
  proto : one.piece.proto ≡ None
  src : one.piece.src ≡ any_address
  sport : one.piece.sport ≡ any_port
  dport : one.piece.dport ≡ any_port

none_is : (proto : Option ℕ) → is_none proto ≡ true → proto ≡ None
none_is None is = refl
none_is (Some number) is = absurd (cc)

block_is : (a b : AddressBlock) → same_block a b ≡ true → a ≡ b
block_is a b is =
    let parts = and_parts _ _ is in
    ap₂ (λ (x y : ℕ). let made : AddressBlock = record { addr = x; len = y } in made) (eqb-true _ _ parts.0) (eqb-true _ _ parts.1)

range_is : (a b : PortRange) → same_range a b ≡ true → a ≡ b
range_is a b is =
    let parts = and_parts _ _ is in
    ap₂ (λ (x y : ℕ). let made : PortRange = record { lo = x; hi = y } in made) (eqb-true _ _ parts.0) (eqb-true _ _ parts.1)

route_parts : (one : LivePiece) → is_route one.piece one.rank ≡ true → RouteParts one
route_parts one is =
    let dport = and_parts _ _ is in
    let sport = and_parts _ _ dport.0 in
    let src = and_parts _ _ sport.0 in
    let first = and_parts _ _ src.0 in
    record { high = eqb-true _ _ first.0; proto = none_is _ first.1; src = block_is _ _ src.1; sport = range_is _ _ sport.1; dport = range_is _ _ dport.1 }

-- two routes meet where their destinations do
meet_by : (upper lower : LivePiece) → RouteParts upper → RouteParts lower → blocks_meet upper.piece.dst lower.piece.dst ≡ true → pieces_meet upper.piece lower.piece ≡ true
meet_by upper lower u l dst =
    let src : blocks_meet upper.piece.src lower.piece.src ≡ true = ap₂ blocks_meet u.src l.src in
    let proto : protos_meet upper.piece.proto lower.piece.proto ≡ true = ap (λ p. protos_meet p lower.piece.proto) u.proto in
    let sport : not (is_disjoint upper.piece.sport lower.piece.sport) ≡ true = ap₂ (λ (a b : PortRange). not (is_disjoint a b)) u.sport l.sport in
    let dport : not (is_disjoint upper.piece.dport lower.piece.dport) ≡ true = ap₂ (λ (a b : PortRange). not (is_disjoint a b)) u.dport l.dport in
    and_from _ _ (and_from _ _ (and_from _ _ (and_from _ _ src dst) proto) sport) dport

inside_meets : (outer inner : AddressBlock) → IsInside outer inner → blocks_meet inner outer ≡ true
inside_meets outer inner inside =
    cond-false (nat_le inner.len outer.len) (block_holds inner outer.addr) (block_holds outer inner.addr) (lt-leb _ _ inside.longer) ∙ eq-eqb _ _ inside.covers.same

-- priorities go by lengths
longer : (upper lower : LivePiece) → RouteParts upper → RouteParts lower → lower.rank < upper.rank → lower.piece.dst.len ≤ upper.piece.dst.len
longer upper lower u l less =
    let high_u : upper.rank / 2 ^ 128 ≡ upper.piece.dst.len = u.high in
    let high_l : lower.rank / 2 ^ 128 ≡ lower.piece.dst.len = l.high in
    omega arith

higher : (upper lower : LivePiece) → RouteParts upper → RouteParts lower → lower.piece.dst.len < upper.piece.dst.len → lower.rank < upper.rank
higher upper lower u l less =
    let high_u : upper.rank / 2 ^ 128 ≡ upper.piece.dst.len = u.high in
    let high_l : lower.rank / 2 ^ 128 ≡ lower.piece.dst.len = l.high in
    omega arith

pub inside_over : (upper lower : LivePiece) → IsRoute upper → IsRoute lower → IsInside lower.piece.dst upper.piece.dst → is_over upper lower ≡ true
inside_over upper lower u l inside =
    let parts_u = route_parts upper u.is in
    let parts_l = route_parts lower l.is in
    and_from _ _ (meet_by upper lower parts_u parts_l (inside_meets lower.piece.dst upper.piece.dst inside)) (lt-ltb _ _ (higher upper lower parts_u parts_l inside.longer))

pub over_inside : (upper lower : LivePiece) → IsRoute upper → IsRoute lower → (upper.piece.dst ≡ lower.piece.dst → ⊥) → is_over upper lower ≡ true → IsInside lower.piece.dst upper.piece.dst
over_inside upper lower u l apart over =
    let less : lower.rank < upper.rank = ltb-true _ _ (and_parts (pieces_meet upper.piece lower.piece) _ over).1 in
    let long = longer upper lower (route_parts upper u.is) (route_parts lower l.is) less in
    by long (over_nested upper lower over)
  where
    by : lower.piece.dst.len ≤ upper.piece.dst.len → AreNested lower.piece.dst upper.piece.dst → IsInside lower.piece.dst upper.piece.dst
    by long (inl covers) = elim (cases_lt lower.piece.dst.len upper.piece.dst.len) [
      | inl less ↦ record { covers = covers; longer = less }
      | inr same ↦ absurd (apart (sym (covers-one lower.piece.dst upper.piece.dst l.right u.right covers same)))
    ]
    by long (inr covers) = absurd (apart (covers-one upper.piece.dst lower.piece.dst u.right l.right covers long))

pub inside-trans : (a b c : AddressBlock) → IsInside a b → IsInside b c → IsInside a c
inside-trans a b c ab bc =
    let first = ab.longer in
    let second = bc.longer in
    record { covers = covers-trans a b c ab.covers bc.covers; longer = omega arith }
