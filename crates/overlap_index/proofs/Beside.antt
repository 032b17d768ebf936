-- The ids on one side of a live one, by a pass over what is live in any order.
use Rattle.std.proofs.Common.{◌≡◌, ℕ, true, List, filter, Contains, subst}
use Rattle.std.specs.Prelude.{◌↔◌}
use Rattle.slot_order.proofs.Lists.{in_map, map_in, in_filter, filter_in}
use Rattle.placement.specs.declared.LivePiece.{LivePiece}
use Rattle.placement.specs.Live.{AreApart, ids_above, ids_below, is_over}
use Rattle.placement.proofs.Above.{above_is, ids_above_are, ids_below_are, is_above_from, same_one}
use Rattle.overlap_index.specs.declared.scan.Side.{Side}
use Rattle.overlap_index.specs.declared.scan.Side.TheVariants.{Above, Below}
use Rattle.overlap_index.specs.Linked.{ArePlaced}
use Rattle.overlap_index.specs.Sides.{ids_beside, ids_on, is_on}
use Rattle.overlap_index.proofs.Linked.{is_over_of}

module _ (slots : ℕ) (live pieces : List LivePiece) (places : List ℕ) (of : LivePiece) (apart : AreApart slots live) (table : ArePlaced slots live pieces places) (has : Contains live of) where
  -- a piece on one side, by the id of it
  on_from : (side : Side) (one : LivePiece) → Contains live one → is_on side one of ≡ true → Contains (ids_on side of pieces) one.id
  on_from side one c on =
      map_in (λ (x : LivePiece). x.id) (filter (λ other. is_on side other of) pieces) one (filter_in (λ other. is_on side other of) pieces one ((table.same one).1 c) on)

  above_beside : (other : ℕ) → Contains (ids_on Above of pieces) other ↔ Contains (ids_above live of.id) other
  above_beside other = (
    λ c.
        let m = in_map (λ (x : LivePiece). x.id) (filter (λ one. is_on Above one of) pieces) other c in
        let f = in_filter (λ one. is_on Above one of) pieces m.0 m.1 in
        subst (Contains (ids_above live of.id)) m.2 ((ids_above_are live of.id m.0.id).1 (is_above_from live m.0 of ((table.same m.0).0 f.0) has f.1)),
    λ c.
        let w = above_is live other of.id ((ids_above_are live of.id other).0 c) in
        let same : w.lower ≡ of = same_one live w.lower of apart.once w.has_lower has w.lower_id in
        subst (Contains (ids_on Above of pieces)) w.upper_id (on_from Above w.upper w.has_upper (subst (λ x. is_over w.upper x ≡ true) same (is_over_of w))),
  )

  below_beside : (other : ℕ) → Contains (ids_on Below of pieces) other ↔ Contains (ids_below live of.id) other
  below_beside other = (
    λ c.
        let m = in_map (λ (x : LivePiece). x.id) (filter (λ one. is_on Below one of) pieces) other c in
        let f = in_filter (λ one. is_on Below one of) pieces m.0 m.1 in
        subst (Contains (ids_below live of.id)) m.2 ((ids_below_are live of.id m.0.id).1 (is_above_from live of m.0 has ((table.same m.0).0 f.0) f.1)),
    λ c.
        let w = above_is live of.id other ((ids_below_are live of.id other).0 c) in
        let same : w.upper ≡ of = same_one live w.upper of apart.once w.has_upper has w.upper_id in
        subst (Contains (ids_on Below of pieces)) w.lower_id (on_from Below w.lower w.has_lower (subst (λ x. is_over x w.lower ≡ true) same (is_over_of w))),
  )

  pub beside : (side : Side) (other : ℕ) → Contains (ids_on side of pieces) other ↔ Contains (ids_beside side live of.id) other
  beside Above other = above_beside other
  beside Below other = below_beside other
