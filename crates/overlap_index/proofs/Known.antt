-- The destinations of the live ids, with one id more and with one less, and what a walk by them finds.
use Rattle.std.proofs.Common.{◌≡◌, ◌≢◌, ℕ, ◌<◌, ◌≤◌, ◌⊎◌, Bool, true, false, Option, Some, None, IfSome, Vec, List, [], ◌∷◌, ◌++◌, length, map, filter, replicate, Contains, arith, inl, inr, refl, sym, ◌∙◌, ap, subst, eqb-true, eq-eqb}
use Rattle.std.specs.Prelude.{◌↔◌, ◌==◌, nat_eq, nat_le, not, is_some, slice_set, slice_index_or}
use Rattle.std.specs.List.{IsDistinct}
use Rattle.std.proofs.lemmas.Bool.{both_ways, cases_eq, cond-true, cond-false, and_parts, not-true, ne_eqb, leb-true, cases_lt, le-leb}
use Rattle.std.proofs.lemmas.List.{get_or_default, get_or-replicate, get_or_past, get_or-set_same, get_or-set_other, length-set, length-replicate}
use Rattle.std.proofs.lemmas.List.Elements.{Contains-append_left, Contains-append_right, Contains-push_cases, recursion_from_All}
use Rattle.slot_order.specs.Order.{most_slots}
use Rattle.slot_order.proofs.Lists.{contains_head, contains_none, in_map, map_in, in_filter, filter_in, AllByRecursion-member}
use Rattle.rule_model.specs.AddressBlock.{AddressBlock, block_holds}
use Rattle.rule_model.specs.Rule.{blocks_meet}
use Rattle.prefix_trie.specs.Nested.{AreNested, AreAllNested}
use Rattle.prefix_trie.specs.Routes.{Route, Routes, route_of}
use Rattle.placement.specs.declared.LivePiece.{LivePiece}
use Rattle.placement.specs.Live.{AreApart, is_live, is_over, without_id}
use Rattle.placement.proofs.Above.{is_live_from, live_is, same_one}
use Rattle.overlap_index.specs.declared.scan.Side.{Side}
use Rattle.overlap_index.specs.declared.scan.Side.TheVariants.{Above, Below}
use Rattle.overlap_index.specs.Sides.{is_on, ids_on, AreOn, AreAmong}
use Rattle.overlap_index.specs.Linked.{AreDestinations, AreIfKnown}
use Rattle.overlap_index.proofs.Came.{distinct_on}
use Rattle.overlap_index.proofs.Linked.{on_size}
use Rattle.overlap_index.proofs.Placed.{on_more}

abbrev pub route_to : LivePiece → Route
route_to one = record { block = one.piece.dst; slot = None }

no_route : (slots id : ℕ) → route_of (replicate slots None) id ≡ None
no_route slots id = elim (cases_lt id slots) [
  | inl less ↦ get_or-replicate slots id None None less
  | inr le ↦ let size = length-replicate {A = Option Route} slots None in get_or_past (replicate slots None) id None (omega arith)
]

-- nothing is live
pub destinations_none : (slots : ℕ) → AreDestinations slots [] (replicate slots None)
destinations_none slots = record {
  many = length-replicate slots None;
  from = λ id route has. absurd (cc (has, no_route slots id));
  to = λ one c. absurd (contains_none one c);
}

pub known_none : (slots : ℕ) (known : Option Routes) → ((routes : Routes) → known ≡ Some routes → routes ≡ replicate slots None) → AreIfKnown slots [] known
known_none slots known none routes routes_is = subst (AreDestinations slots []) (sym (none routes routes_is)) (destinations_none slots)

-- the same pieces in another order have the same
pub destinations_same : (slots : ℕ) (live other : List LivePiece) (routes : Routes) → ((one : LivePiece) → Contains live one ↔ Contains other one) → AreDestinations slots live routes → AreDestinations slots other routes
destinations_same slots live other routes same known = record {
  many = known.many;
  from = λ id route has. let one = known.from id route has in (one.0, (same one.0).0 one.1, one.2, one.3);
  to = λ one c. known.to one ((same one).1 c);
}

-- an id that isn't live has none
pub route_absent : (slots : ℕ) (live : List LivePiece) (routes : Routes) → AreDestinations slots live routes → (id : ℕ) → is_live live id ≡ false → route_of routes id ≡ None
route_absent slots live routes known id absent = by (route_of routes id) refl
  where
    by : (found : Option Route) → route_of routes id ≡ found → route_of routes id ≡ None
    by None is = is
    by (Some route) is =
        let one = known.from id route is in
        absurd (both_ways (is_live live id) absent (subst (λ k. is_live live k ≡ true) one.2 (is_live_from live one.0 one.1)))

-- and one that is has one
pub route_present : (slots : ℕ) (live : List LivePiece) (routes : Routes) → AreDestinations slots live routes → (id : ℕ) → is_live live id ≡ true → is_some (route_of routes id) ≡ true
route_present slots live routes known id is =
    let w = live_is live id is in
    let route = known.to w.0 w.1 in
    subst (λ k. is_some (route_of routes k) ≡ true) w.2 (ap is_some route.1)

pub known_more : (slots : ℕ) (live : List LivePiece) (before : Routes) (one : LivePiece) → one.id < slots → is_live live one.id ≡ false → AreDestinations slots live before
    → AreDestinations slots (live ++ one ∷ []) (slice_set before one.id (Some (route_to one)))
known_more slots live before one small absent known = record {
  many = length-set before one.id (Some (route_to one)) ∙ known.many;
  from = λ id route has. from id route has (cases_eq id one.id);
  to = λ other c. elim (Contains-push_cases live one other c) [
    | inl old ↦
        let route = known.to other old in
        let off : other.id ≢ one.id = (λ same. both_ways (is_live live one.id) absent (subst (λ k. is_live live k ≡ true) same (is_live_from live other old))) in
        (route.0, get_or-set_other before one.id other.id (Some (route_to one)) None off ∙ route.1, route.2)
    | inr same ↦ subst (λ x. (route : Route) × (route_of (slice_set before one.id (Some (route_to one))) x.id ≡ Some route) × (route.block ≡ x.piece.dst)) same (route_to one, here, refl)
  ];
}
  where
    many : one.id < length before
    many = let same = known.many in omega arith

    here : route_of (slice_set before one.id (Some (route_to one))) one.id ≡ Some (route_to one)
    here = get_or-set_same before one.id (Some (route_to one)) None many

    from : (id : ℕ) (route : Route) → route_of (slice_set before one.id (Some (route_to one))) id ≡ Some route → (id ≡ one.id) ⊎ (id ≢ one.id)
        → (x : LivePiece) × Contains (live ++ one ∷ []) x × (x.id ≡ id) × (route.block ≡ x.piece.dst)
    from id route has (inl same) =
        let there = sym (ap (route_of (slice_set before one.id (Some (route_to one)))) same) ∙ has in
        let route_is : route_to one ≡ route = cc (here, there) in
        (one, Contains-append_right live (one ∷ []) one (contains_head one []), sym same, sym (ap (λ (r : Route). r.block) route_is))
    from id route has (inr off) =
        let was = known.from id route (sym (get_or-set_other before one.id id (Some (route_to one)) None off) ∙ has) in
        (was.0, Contains-append_left live (one ∷ []) was.0 was.1, was.2, was.3)

pub known_less : (slots : ℕ) (live : List LivePiece) (before : Routes) (id : ℕ) → id < slots → AreDestinations slots live before → AreDestinations slots (without_id live id) (slice_set before id None)
known_less slots live before id small known = record {
  many = length-set before id None ∙ known.many;
  from = λ other route has. from other route has (cases_eq other id);
  to = λ one c.
      let kept = in_filter (λ (x : LivePiece). not (x.id == id)) live one c in
      let route = known.to one kept.0 in
      let off : one.id ≢ id = (λ same. both_ways (one.id == id) (not-true _ kept.1) (eq-eqb one.id id same)) in
      (route.0, get_or-set_other before id one.id None None off ∙ route.1, route.2);
}
  where
    from : (other : ℕ) (route : Route) → route_of (slice_set before id None) other ≡ Some route → (other ≡ id) ⊎ (other ≢ id)
        → (x : LivePiece) × Contains (without_id live id) x × (x.id ≡ other) × (route.block ≡ x.piece.dst)
    from other route has (inl same) =
        let many = known.many in
        let gone = get_or-set_same before id None None (omega arith) in
        let there = sym (ap (route_of (slice_set before id None)) same) ∙ has in
        absurd (cc (there, gone))
    from other route has (inr off) =
        let was = known.from other route (sym (get_or-set_other before id other None None off) ∙ has) in
        let away : was.0.id ≢ id = (λ same. off (sym was.2 ∙ same)) in
        (was.0, filter_in (λ (x : LivePiece). not (x.id == id)) live was.0 was.1 (ap not (ne_eqb was.0.id id away)), was.2, was.3)

-- blocks that meet are nested
nested_from : (a b : AddressBlock) → blocks_meet a b ≡ true → AreNested b a
nested_from a b meet = elim (cases_lt b.len a.len) [
  | inl less ↦
      let test : block_holds b a.addr ≡ true = by (nat_le a.len b.len) refl less in
      inl (record { order = omega arith; same = eqb-true _ _ test })
  | inr le ↦
      let test : block_holds a b.addr ≡ true = sym (cond-true (nat_le a.len b.len) (block_holds a b.addr) (block_holds b a.addr) (le-leb _ _ le)) ∙ meet in
      inr (record { order = le; same = eqb-true _ _ test })
]
  where
    by : (test : Bool) → nat_le a.len b.len ≡ test → b.len < a.len → block_holds b a.addr ≡ true
    by true is less = let le : a.len ≤ b.len = leb-true a.len b.len is in absurd (omega arith)
    by false is less = sym (cond-false (nat_le a.len b.len) (block_holds a b.addr) (block_holds b a.addr) is) ∙ meet

swapped : (a b : AddressBlock) → AreNested a b → AreNested b a
swapped a b (inl ab) = inr ab
swapped a b (inr ba) = inl ba

pub over_nested : (upper lower : LivePiece) → is_over upper lower ≡ true → AreNested lower.piece.dst upper.piece.dst
over_nested upper lower e =
    let blocks = (and_parts _ _ (and_parts _ _ (and_parts _ _ (and_parts _ _ e).0).0).0).0 in
    nested_from upper.piece.dst lower.piece.dst (and_parts _ _ blocks).1

on_nested : (side : Side) (other of : LivePiece) → is_on side other of ≡ true → AreNested of.piece.dst other.piece.dst
on_nested Above other of e = over_nested other of e
on_nested Below other of e = swapped other.piece.dst of.piece.dst (over_nested of other e)

-- of the ids that a walk finds those on one side of a piece are all on that side
pub on_walked : (side : Side) (of : LivePiece) (slots : ℕ) (live pieces : List LivePiece) (routes : Routes) (ids named : List ℕ) → slots ≤ most_slots → AreApart slots live → AreDestinations slots live routes
    → AreAllNested routes of.piece.dst ids → map (λ (one : LivePiece). one.id) pieces ≡ ids → ((one : LivePiece) → Contains pieces one → Contains live one) → named ≡ ids_on side of pieces → AreOn side of live named
on_walked side of slots live pieces routes ids named most apart known all ids_is standing is =
    let dense : AreApart slots pieces = record {
      small = recursion_from_All (λ (one : LivePiece). one.id < slots) pieces (λ k one inside.
          AllByRecursion-member (λ (x : LivePiece). x.id < slots) live (slice_index_or pieces k one) apart.small (standing (slice_index_or pieces k one) (k, inside, again k one inside)));
      once = subst (IsDistinct nat_eq) (sym ids_is) all.once;
    } in
    let size = on_size side of slots pieces dense in
    let same = ap length is in
    record {
      exact = λ id. (λ c. on_more side of pieces live standing id (subst (λ xs. Contains xs id) is c), λ c. subst (λ xs. Contains xs id) (sym is) (back id c));
      once = subst (IsDistinct nat_eq) (sym is) (distinct_on side of pieces dense.once);
      most = omega arith;
    }
  where
    again : (k : ℕ) (one : LivePiece) → k < length pieces → slice_index_or pieces k (slice_index_or pieces k one) ≡ slice_index_or pieces k one
    again k one inside = get_or_default pieces k (slice_index_or pieces k one) one inside

    back : (id : ℕ) → Contains (ids_on side of live) id → Contains (ids_on side of pieces) id
    back id c =
        let m = in_map (λ (one : LivePiece). one.id) (filter (λ other. is_on side other of) live) id c in
        let f = in_filter (λ other. is_on side other of) live m.0 m.1 in
        let route = known.to m.0 f.0 in
        let near : AreNested of.piece.dst route.0.block = subst (AreNested of.piece.dst) (sym route.2) (on_nested side m.0 of f.1) in
        let found : Contains ids m.0.id = (all.exact m.0.id).1 (record { route = route.0; has = route.1; nested = near }) in
        let q = in_map (λ (one : LivePiece). one.id) pieces m.0.id (subst (λ xs. Contains xs m.0.id) (sym ids_is) found) in
        let one : q.0 ≡ m.0 = same_one live q.0 m.0 apart.once (standing q.0 q.1) f.0 q.2 in
        let has : Contains pieces m.0 = subst (Contains pieces) one q.1 in
        subst (Contains (ids_on side of pieces)) m.2 (map_in (λ (one : LivePiece). one.id) (filter (λ other. is_on side other of) pieces) m.0 (filter_in (λ other. is_on side other of) pieces m.0 has f.1))

-- what a walk found, where these are known
abbrev pub IsWalk : Option Routes → AddressBlock → List ℕ → Type 0
IsWalk known block ids = (routes : Routes) × (known ≡ Some routes) × AreAllNested routes block ids

pub walk_of : {Z : Type 0} (known : Option Routes) (block : AddressBlock) (found : Option (Vec ℕ Z)) (ids : Vec ℕ Z) → found ≡ Some ids → IfSome found (λ (v : Vec ℕ Z). IsWalk known block v.items)
    → IsWalk known block ids.items
walk_of {Z} known block found ids is has = subst (λ (w : Option (Vec ℕ Z)). IfSome w (λ (v : Vec ℕ Z). IsWalk known block v.items)) is has

-- the ids of one side
abbrev pub ids_of : Side → List ℕ → List ℕ → List ℕ
ids_of Above above below = above
ids_of Below above below = below

-- what a walk finds is live
walked_live : (slots : ℕ) (live : List LivePiece) (routes : Routes) (block : AddressBlock) (ids : List ℕ) → AreDestinations slots live routes → AreAllNested routes block ids → (id : ℕ) → Contains ids id
    → is_live live id ≡ true
walked_live slots live routes block ids known all id c =
    let has = (all.exact id).0 c in
    let one = known.from id has.route has.has in
    subst (λ k. is_live live k ≡ true) one.2 (is_live_from live one.0 one.1)

-- and so are all that are read of it
pub walked_all : (slots : ℕ) (live : List LivePiece) (known : Option Routes) (block : AddressBlock) (ids named : List ℕ) → named ≡ ids → AreIfKnown slots live known → IsWalk known block ids → (id : ℕ) → Contains named id
    → is_live live id ≡ true
walked_all slots live known block ids named same if_known walked id c =
    walked_live slots live walked.0 block ids (if_known walked.0 walked.1) walked.2 id (subst (λ xs. Contains xs id) same c)

-- of the ids that a walk finds those on either side
pub on_among : (side : Side) (of : LivePiece) (slots : ℕ) (live : List LivePiece) (known : Option Routes) (ids above below : List ℕ) → slots ≤ most_slots → AreApart slots live → AreIfKnown slots live known
    → IsWalk known of.piece.dst ids → AreAmong of live ids above below → AreOn side of live (ids_of side above below)
on_among Above of slots live known ids above below most apart if_known walked among =
    on_walked Above of slots live among.pieces walked.0 ids above most apart (if_known walked.0 walked.1) walked.2 among.named among.standing among.on_above
on_among Below of slots live known ids above below most apart if_known walked among =
    on_walked Below of slots live among.pieces walked.0 ids below most apart (if_known walked.0 walked.1) walked.2 among.named among.standing among.on_below
