-- The links of the live ids: which of them are above which.
use Rattle.std.proofs.Common.{◌≡◌, ◌≢◌, ℕ, ◌<◌, ◌≤◌, true, false, List, [], ◌∷◌, ◌++◌, length, map, filter, replicate, None, Some, Contains, arith, inl, inr, ◌⊎◌, sym, ◌∙◌, subst, ap, eq-eqb}
use Rattle.std.specs.Prelude.{◌↔◌, ◌==◌, nat_eq, not}
use Rattle.std.specs.List.{IsDistinct}
use Rattle.std.proofs.lemmas.Bool.{both_ways, and_from, eqb-true, false_from_ne_true, or_cases, or_left, or_right, not-true, lt-ltb, ne_eqb}
use Rattle.std.proofs.lemmas.List.{length-map}
use Rattle.std.proofs.lemmas.List.Elements.{Contains-append_left, Contains-append_right, Contains-push_cases}
use Rattle.std.proofs.lemmas.List.Sums.{length-filter, count_by-le-length}
use Rattle.std.proofs.lemmas.Map.Steps.{length-le_from_distinct_below}
use Rattle.slot_order.specs.Order.{most_slots}
use Rattle.slot_order.proofs.Lists.{contains_head, contains_none, AllByRecursion-member, any_is, in_map, map_in, in_filter, filter_in}
use Rattle.order_chains.specs.Pairs.{Pairs, HasPair, has_end, without}
use Rattle.overlap_index.specs.declared.scan.Side.{Side}
use Rattle.overlap_index.specs.declared.scan.Side.TheVariants.{Above, Below}
use Rattle.placement.specs.declared.LivePiece.{LivePiece}
use Rattle.placement.specs.Live.{AreApart, is_live, is_over, ids_above, ids_below, is_above, without_id}
use Rattle.overlap_index.specs.Sides.{is_on, ids_on, AreOn}
use Rattle.overlap_index.specs.Linked.{AreLinked, ArePlaced, HaveMore}
use Rattle.placement.proofs.Above.{IsOver, above_is, is_above_from, ids_above_are, ids_below_are, is_live_from, live_is}
use Rattle.overlap_index.proofs.Came.{distinct_on}
use Rattle.overlap_index.proofs.Placed.{apart_placed, on_more}
use Rattle.order_chains.proofs.Seen.{roomy_pairs, without_pairs}

-- what stands above what, from the two pieces
pub is_over_of : {live : List LivePiece} {upper lower : ℕ} (w : IsOver live upper lower) → is_over w.upper w.lower ≡ true
is_over_of w = and_from _ _ w.meet (lt-ltb w.lower.rank w.upper.rank w.less)

over_above : (live : List LivePiece) (upper lower : ℕ) → IsOver live upper lower → is_above live upper lower ≡ true
over_above live upper lower w =
    subst (λ z. is_above live upper z ≡ true) w.lower_id (subst (λ z. is_above live z w.lower.id ≡ true) w.upper_id
    (is_above_from live w.upper w.lower w.has_upper w.has_lower (is_over_of w)))

-- a live id is small
pub live_small : (slots : ℕ) (live : List LivePiece) (id : ℕ) → AreApart slots live → is_live live id ≡ true → id < slots
live_small slots live id apart is =
    let w = live_is live id is in
    subst (λ n. n < slots) w.2 (AllByRecursion-member (λ (one : LivePiece). one.id < slots) live w.0 apart.small w.1)

-- ids that are one side of a piece are live
pub on_live : (side : Side) (of : LivePiece) (live : List LivePiece) (id : ℕ) → Contains (ids_on side of live) id → is_live live id ≡ true
on_live side of live id c =
    let m = in_map (λ (one : LivePiece). one.id) (filter (λ other. is_on side other of) live) id c in
    let f = in_filter (λ other. is_on side other of) live m.0 m.1 in
    subst (λ z. is_live live z ≡ true) m.2 (is_live_from live m.0 f.0)

-- an id that isn't live is none of them
pub on_others : (side : Side) (of : LivePiece) (slots ids : ℕ) (live : List LivePiece) (named : List ℕ) → AreOn side of live named → ids ≡ slots → AreApart slots live
    → is_live live of.id ≡ false → (id : ℕ) → Contains named id → (id < ids) × (id ≢ of.id)
on_others side of slots ids live named on size apart absent id c =
    let has = on_live side of live id ((on.exact id).0 c) in
    let small = live_small slots live id apart has in
    (omega arith, λ e. both_ways (is_live live id) (subst (λ z. is_live live z ≡ false) (sym e) absent) has)

-- nor an end of a link
pub not_upper : (edges : Pairs) (live : List LivePiece) (new lower : ℕ) → AreLinked edges live → is_live live new ≡ false → HasPair edges new lower → ⊥
not_upper edges live new lower links absent has =
    let w = above_is live new lower ((links.linked new lower).0 has) in
    both_ways (is_live live new) absent (subst (λ z. is_live live z ≡ true) w.upper_id (is_live_from live w.upper w.has_upper))

pub not_lower : (edges : Pairs) (live : List LivePiece) (new upper : ℕ) → AreLinked edges live → is_live live new ≡ false → HasPair edges upper new → ⊥
not_lower edges live new upper links absent has =
    let w = above_is live upper new ((links.linked upper new).0 has) in
    both_ways (is_live live new) absent (subst (λ z. is_live live z ≡ true) w.lower_id (is_live_from live w.lower w.has_lower))

-- there are no more live pieces than ids
live_size : (slots : ℕ) (live : List LivePiece) → AreApart slots live → length live ≤ slots
live_size slots live apart =
    let same = length-map live (λ (one : LivePiece). one.id) in
    let most = length-le_from_distinct_below (map (λ (one : LivePiece). one.id) live) slots apart.once (λ q e.
    let w = any_is (nat_eq q) (map (λ (one : LivePiece). one.id) live) e in
    let m = in_map (λ (one : LivePiece). one.id) live w.0 w.1 in
    subst (λ n. n < slots) (m.2 ∙ sym (eqb-true q w.0 w.2)) (AllByRecursion-member (λ (one : LivePiece). one.id < slots) live m.0 apart.small m.1)) in
    omega arith

pub on_size : (side : Side) (of : LivePiece) (slots : ℕ) (live : List LivePiece) → AreApart slots live → length (ids_on side of live) ≤ slots
on_size side of slots live apart =
    let some : List LivePiece = filter (λ other. is_on side other of) live in
    let size = live_size slots live apart in
    let same = length-map some (λ (one : LivePiece). one.id) in
    let kept = length-filter (λ other. is_on side other of) live in
    let less = count_by-le-length (λ other. is_on side other of) live in
    omega arith

-- there are no more pieces with a place each than ids
pub pieces_size : (slots : ℕ) (live pieces : List LivePiece) (places : List ℕ) → AreApart slots live → ArePlaced slots live pieces places → length pieces ≤ slots
pieces_size slots live pieces places apart table = live_size slots pieces (apart_placed slots live pieces places apart table)

-- what is found in any order is what is live
pub on_found : (side : Side) (of : LivePiece) (slots : ℕ) (live pieces : List LivePiece) (places named : List ℕ) → slots ≤ most_slots → AreApart slots live → ArePlaced slots live pieces places
    → named ≡ ids_on side of pieces → AreOn side of live named
on_found side of slots live pieces places named most apart table is =
    let dense = apart_placed slots live pieces places apart table in
    let size = on_size side of slots pieces dense in
    let same = ap length is in
    record {
      exact = λ id. (
        λ c. on_more side of pieces live (λ one. (table.same one).0) id (subst (λ xs. Contains xs id) is c),
        λ c. subst (λ xs. Contains xs id) (sym is) (on_more side of live pieces (λ one. (table.same one).1) id c),
      );
      once = subst (IsDistinct nat_eq) (sym is) (distinct_on side of pieces dense.once);
      most = omega arith;
    }

-- pairs that are added, said in another way
pub have_as : (old new : Pairs) (A B : ℕ → ℕ → Type 0) → ((upper lower : ℕ) → A upper lower ↔ B upper lower) → HaveMore old new A → HaveMore old new B
have_as old new A B same more upper lower = (
  λ c. elim ((more upper lower).0 c) [ inl before ↦ inl before | inr added ↦ inr ((same upper lower).0 added) ],
  λ c. (more upper lower).1 (elim c [ inl before ↦ inl before | inr added ↦ inr ((same upper lower).1 added) ]),
)

-- nothing is linked where nothing is live
pub linked_none : (edges : Pairs) → edges.places ≡ [] → AreLinked edges []
linked_none edges none = record {
  linked = λ upper lower. (
    λ has. absurd (contains_none (Some (upper, lower)) (subst (λ xs. Contains xs (Some (upper, lower))) none has)),
    λ e. absurd (let w = above_is [] upper lower e in contains_none w.upper w.has_upper),
  );
}

-- what is above another in some is in others that have them all
above_more : (some all : List LivePiece) → ((one : LivePiece) → Contains some one → Contains all one) → (upper lower : ℕ) → is_above some upper lower ≡ true → is_above all upper lower ≡ true
above_more some all more upper lower e =
    let w = above_is some upper lower e in
    over_above all upper lower (record { upper = w.upper; lower = w.lower; has_upper = more w.upper w.has_upper; has_lower = more w.lower w.has_lower; upper_id = w.upper_id; lower_id = w.lower_id; meet = w.meet; less = w.less })

-- the same pieces in another order have the same links
pub linked_same : (edges : Pairs) (live other : List LivePiece) → ((one : LivePiece) → Contains live one ↔ Contains other one) → AreLinked edges live → AreLinked edges other
linked_same edges live other same links = record {
  linked = λ upper lower. (
    λ has. above_more live other (λ one. (same one).0) upper lower ((links.linked upper lower).0 has),
    λ e. (links.linked upper lower).1 (above_more other live (λ one. (same one).1) upper lower e),
  );
}

-- room for more changes no link
pub linked_roomy : (old new : Pairs) (live : List LivePiece) (more : ℕ) → new.places ≡ old.places ++ replicate more None → AreLinked old live → AreLinked new live
linked_roomy old new live more is links = record {
  linked = λ upper lower.
      let room = roomy_pairs old.places more (upper, lower) in (
        λ has. (links.linked upper lower).0 (room.0 (subst (λ xs. Contains xs (Some (upper, lower))) is has)),
        λ e. subst (λ xs. Contains xs (Some (upper, lower))) (sym is) (room.1 ((links.linked upper lower).1 e)),
      );
}

-- a new id is linked to those above and below it
pub linked_more : (one : LivePiece) (live : List LivePiece) (old mid new : Pairs) → AreLinked old live
    → HaveMore old mid (λ upper lower. Contains (ids_on Above one live) upper × (lower ≡ one.id))
    → HaveMore mid new (λ upper lower. (upper ≡ one.id) × Contains (ids_on Below one live) lower) → AreLinked new (live ++ one ∷ [])
linked_more one live old mid new links aboves belows = record { linked = λ upper lower. (to upper lower, from upper lower) }
  where
    all : List LivePiece
    all = live ++ one ∷ []

    more : (x : LivePiece) → Contains live x → Contains all x
    more x c = Contains-append_left live (one ∷ []) x c

    last : Contains all one
    last = Contains-append_right live (one ∷ []) one (contains_head one [])

    to : (upper lower : ℕ) → HasPair new upper lower → is_above all upper lower ≡ true
    to upper lower has = elim ((belows upper lower).0 has) [
      | inr below ↦
          let m = in_map (λ (x : LivePiece). x.id) (filter (λ other. is_on Below other one) live) lower below.1 in
          let f = in_filter (λ other. is_on Below other one) live m.0 m.1 in
          subst (λ z. is_above all z lower ≡ true) (sym below.0) (subst (λ z. is_above all one.id z ≡ true) m.2 (is_above_from all one m.0 last (more m.0 f.0) f.1))
      | inl has ↦ elim ((aboves upper lower).0 has) [
        | inr above ↦
            let m = in_map (λ (x : LivePiece). x.id) (filter (λ other. is_on Above other one) live) upper above.0 in
            let f = in_filter (λ other. is_on Above other one) live m.0 m.1 in
            subst (λ z. is_above all upper z ≡ true) (sym above.1) (subst (λ z. is_above all z one.id ≡ true) m.2 (is_above_from all m.0 one (more m.0 f.0) last f.1))
        | inl has ↦
            let w = above_is live upper lower ((links.linked upper lower).0 has) in
            over_above all upper lower (record { upper = w.upper; lower = w.lower; has_upper = more w.upper w.has_upper; has_lower = more w.lower w.has_lower; upper_id = w.upper_id; lower_id = w.lower_id; meet = w.meet; less = w.less })
      ]
    ]

    -- by which of the two is the new one
    by : (upper lower : ℕ) (w : IsOver all upper lower) → (Contains live w.upper ⊎ (one ≡ w.upper)) → (Contains live w.lower ⊎ (one ≡ w.lower)) → HasPair new upper lower
    by upper lower w (inl u) (inl l) = (belows upper lower).1 (inl ((aboves upper lower).1 (inl ((links.linked upper lower).1
        (over_above live upper lower (record { upper = w.upper; lower = w.lower; has_upper = u; has_lower = l; upper_id = w.upper_id; lower_id = w.lower_id; meet = w.meet; less = w.less }))))))
    by upper lower w (inl u) (inr l) = (belows upper lower).1 (inl ((aboves upper lower).1 (inr (
      subst (Contains (ids_on Above one live)) w.upper_id (map_in (λ (x : LivePiece). x.id) (filter (λ other. is_on Above other one) live) w.upper
          (filter_in (λ other. is_on Above other one) live w.upper u (subst (λ z. is_over w.upper z ≡ true) (sym l) (is_over_of w)))),
      sym w.lower_id ∙ ap (λ (x : LivePiece). x.id) (sym l),
    ))))
    by upper lower w (inr u) (inl l) = (belows upper lower).1 (inr (
      sym w.upper_id ∙ ap (λ (x : LivePiece). x.id) (sym u),
      subst (Contains (ids_on Below one live)) w.lower_id (map_in (λ (x : LivePiece). x.id) (filter (λ other. is_on Below other one) live) w.lower
          (filter_in (λ other. is_on Below other one) live w.lower l (subst (λ z. is_over z w.lower ≡ true) (sym u) (is_over_of w)))),
    ))
    by upper lower w (inr u) (inr l) =
        let same : w.upper.rank ≡ w.lower.rank = ap (λ (x : LivePiece). x.rank) (sym u ∙ l) in
        let less : w.lower.rank < w.upper.rank = w.less in
        absurd (omega arith)

    from : (upper lower : ℕ) → is_above all upper lower ≡ true → HasPair new upper lower
    from upper lower e =
        let w = above_is all upper lower e in
        by upper lower w (Contains-push_cases live one w.upper w.has_upper) (Contains-push_cases live one w.lower w.has_lower)

-- the links of an id that goes are gone
pub linked_without : (old new : Pairs) (live : List LivePiece) (id : ℕ) → new.places ≡ map (without id) old.places → AreLinked old live → AreLinked new (without_id live id)
linked_without old new live id is links = record { linked = λ upper lower. (to upper lower, from upper lower) }
  where
    rest : List LivePiece
    rest = without_id live id

    stays : (x : LivePiece) → Contains live x → x.id ≢ id → Contains rest x
    stays x c n = filter_in (λ one. not (one.id == id)) live x c (ap not (ne_eqb x.id id n))

    to : (upper lower : ℕ) → HasPair new upper lower → is_above rest upper lower ≡ true
    to upper lower has =
        let p = (without_pairs id old.places (upper, lower)).0 (subst (λ xs. Contains xs (Some (upper, lower))) is has) in
        let w = above_is live upper lower ((links.linked upper lower).0 p.0) in
        over_above rest upper lower (record {
          upper = w.upper;
          lower = w.lower;
          has_upper = stays w.upper w.has_upper (λ e. both_ways (has_end id (upper, lower)) p.1 (or_left (upper == id) (lower == id) (eq-eqb upper id (sym w.upper_id ∙ e))));
          has_lower = stays w.lower w.has_lower (λ e. both_ways (has_end id (upper, lower)) p.1 (or_right (upper == id) (lower == id) (eq-eqb lower id (sym w.lower_id ∙ e))));
          upper_id = w.upper_id;
          lower_id = w.lower_id;
          meet = w.meet;
          less = w.less;
        })

    from : (upper lower : ℕ) → is_above rest upper lower ≡ true → HasPair new upper lower
    from upper lower e =
        let w = above_is rest upper lower e in
        let u = in_filter (λ (one : LivePiece). not (one.id == id)) live w.upper w.has_upper in
        let l = in_filter (λ (one : LivePiece). not (one.id == id)) live w.lower w.has_lower in
        subst (λ xs. Contains xs (Some (upper, lower))) (sym is) ((without_pairs id old.places (upper, lower)).1 (
          (links.linked upper lower).1 (over_above live upper lower (record { upper = w.upper; lower = w.lower; has_upper = u.0; has_lower = l.0; upper_id = w.upper_id; lower_id = w.lower_id; meet = w.meet; less = w.less })),
          false_from_ne_true (has_end id (upper, lower)) (λ t. elim (or_cases (upper == id) (lower == id) t) [
            | inl h ↦ both_ways (w.upper.id == id) (not-true _ u.1) (eq-eqb w.upper.id id (w.upper_id ∙ eqb-true upper id h))
            | inr h ↦ both_ways (w.lower.id == id) (not-true _ l.1) (eq-eqb w.lower.id id (w.lower_id ∙ eqb-true lower id h))
          ]),
        ))

-- what is linked to an id is what is asked for
pub linked_above : (edges : Pairs) (live : List LivePiece) (id : ℕ) (named : List ℕ) → AreLinked edges live
    → ((other : ℕ) → Contains named other ↔ HasPair edges other id) → (other : ℕ) → Contains named other ↔ Contains (ids_above live id) other
linked_above edges live id named links exact other =
    let pair = links.linked other id in
    let above = ids_above_are live id other in
    (λ c. above.1 (pair.0 ((exact other).0 c)), λ c. (exact other).1 (pair.1 (above.0 c)))

pub linked_below : (edges : Pairs) (live : List LivePiece) (id : ℕ) (named : List ℕ) → AreLinked edges live
    → ((other : ℕ) → Contains named other ↔ HasPair edges id other) → (other : ℕ) → Contains named other ↔ Contains (ids_below live id) other
linked_below edges live id named links exact other =
    let pair = links.linked id other in
    let below = ids_below_are live id other in
    (λ c. below.1 (pair.0 ((exact other).0 c)), λ c. (exact other).1 (pair.1 (below.0 c)))
