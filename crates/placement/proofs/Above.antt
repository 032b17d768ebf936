-- What the index's test says: who stands above whom.
use Rattle.std.proofs.Common.{◌≡◌, ℕ, ◌<◌, true, List, [], ◌∷◌, map, filter, Contains, arith, inl, inr, refl, sym, ◌∙◌, subst, ap, ap₂}
use Rattle.std.specs.Prelude.{◌==◌, ◌↔◌, nat_lt, nat_eq, if◌then◌else◌}
use Rattle.std.specs.List.{list_any, IsDistinct}
use Rattle.std.proofs.lemmas.Bool.{both_ways, cases_Bool, and_parts, and_from, ltb-true, lt-ltb, eqb-true, eq-eqb, cond-true, cond-false, false_from_ne_true}
use Rattle.slot_order.proofs.Lists.{contains_cases, contains_none, any_is, any_from, in_map, map_in, in_filter, filter_in}
use Rattle.rule_model.specs.Piece.{pieces_meet}
use Rattle.placement.specs.declared.LivePiece.{LivePiece}
use Rattle.placement.specs.Live.{rank_in, is_live, is_over, with_id, ids_above, ids_below, is_above}
use Rattle.placement.proofs.Live.{all_apart}

-- what the index's test says
pub record IsOver (live : List LivePiece) (a b : ℕ) : Type 0 where
  pub upper : LivePiece
  pub lower : LivePiece
  pub has_upper : Contains live upper
  pub has_lower : Contains live lower
  pub upper_id : upper.id ≡ a
  pub lower_id : lower.id ≡ b
  pub meet : pieces_meet upper.piece lower.piece ≡ true
  pub less : lower.rank < upper.rank

over_parts : (live : List LivePiece) (a b : ℕ) (x y : LivePiece) → Contains live x → Contains live y → x.id ≡ a → y.id ≡ b → is_over x y ≡ true → IsOver live a b
over_parts live a b x y hx hy ix iy e =
    let p = and_parts (pieces_meet x.piece y.piece) (nat_lt y.rank x.rank) e in
    record { upper = x; lower = y; has_upper = hx; has_lower = hy; upper_id = ix; lower_id = iy; meet = p.0; less = ltb-true y.rank x.rank p.1 }

in_above : (live : List LivePiece) (a b : ℕ) → Contains (ids_above live b) a → IsOver live a b
in_above live a b c =
    let m = in_map (λ one. one.id) (filter (λ upper. list_any (λ lower. is_over upper lower) (with_id live b)) live) a c in
    let f = in_filter (λ upper. list_any (λ lower. is_over upper lower) (with_id live b)) live m.0 m.1 in
    let l = any_is (λ lower. is_over m.0 lower) (with_id live b) f.1 in
    let g = in_filter (λ one. one.id == b) live l.0 l.1 in
    over_parts live a b m.0 l.0 f.0 g.0 m.2 (eqb-true l.0.id b g.1) l.2

pub above_is : (live : List LivePiece) (a b : ℕ) → is_above live a b ≡ true → IsOver live a b
above_is live a b e =
    let w = any_is (λ id. id == a) (ids_above live b) e in
    in_above live a b (subst (Contains (ids_above live b)) (eqb-true w.0 a w.2) w.1)

above_in : (live : List LivePiece) (x y : LivePiece) → Contains live x → Contains live y → is_over x y ≡ true → Contains (ids_above live y.id) x.id
above_in live x y cx cy e =
    map_in (λ one. one.id) (filter (λ upper. list_any (λ lower. is_over upper lower) (with_id live y.id)) live) x
    (filter_in (λ upper. list_any (λ lower. is_over upper lower) (with_id live y.id)) live x cx
    (any_from (λ lower. is_over x lower) (with_id live y.id) y (filter_in (λ one. one.id == y.id) live y cy (eq-eqb y.id y.id refl)) e))

pub is_above_from : (live : List LivePiece) (x y : LivePiece) → Contains live x → Contains live y → is_over x y ≡ true → is_above live x.id y.id ≡ true
is_above_from live x y cx cy e =
    any_from (λ id. id == x.id) (ids_above live y.id) x.id (above_in live x y cx cy e) (eq-eqb x.id x.id refl)

below_is : (live : List LivePiece) (a b : ℕ) → Contains (ids_below live a) b → (x : LivePiece) × (y : LivePiece) × Contains live x × Contains live y × (x.id ≡ a) × (y.id ≡ b) × (is_over x y ≡ true)
below_is live a b c =
    let m = in_map (λ one. one.id) (filter (λ lower. list_any (λ upper. is_over upper lower) (with_id live a)) live) b c in
    let f = in_filter (λ lower. list_any (λ upper. is_over upper lower) (with_id live a)) live m.0 m.1 in
    let l = any_is (λ upper. is_over upper m.0) (with_id live a) f.1 in
    let g = in_filter (λ one. one.id == a) live l.0 l.1 in
    (l.0, m.0, g.0, f.0, eqb-true l.0.id a g.1, m.2, l.2)

below_in : (live : List LivePiece) (x y : LivePiece) → Contains live x → Contains live y → is_over x y ≡ true → Contains (ids_below live x.id) y.id
below_in live x y cx cy e =
    map_in (λ one. one.id) (filter (λ lower. list_any (λ upper. is_over upper lower) (with_id live x.id)) live) y
    (filter_in (λ lower. list_any (λ upper. is_over upper lower) (with_id live x.id)) live y cy
    (any_from (λ upper. is_over upper y) (with_id live x.id) x (filter_in (λ one. one.id == x.id) live x cx (eq-eqb x.id x.id refl)) e))

-- the ids above one, and below it, are those that the test names
pub ids_above_are : (live : List LivePiece) (id other : ℕ) → Contains (ids_above live id) other ↔ (is_above live other id ≡ true)
ids_above_are live id other = (
  λ c. any_from (λ one. one == other) (ids_above live id) other c (eq-eqb other other refl),
  λ e. let w = any_is (λ one. one == other) (ids_above live id) e in subst (Contains (ids_above live id)) (eqb-true w.0 other w.2) w.1,
)

pub ids_below_are : (live : List LivePiece) (id other : ℕ) → Contains (ids_below live id) other ↔ (is_above live id other ≡ true)
ids_below_are live id other = (
  λ c. let w = below_is live id other c in
      subst (λ z. is_above live id z ≡ true) w.5 (subst (λ z. is_above live z w.1.id ≡ true) w.4 (is_above_from live w.0 w.1 w.2 w.3 w.6)),
  λ e. to (above_is live id other e),
)
  where
    to : IsOver live id other → Contains (ids_below live id) other
    to w = subst (Contains (ids_below live id)) w.lower_id (subst (λ z. Contains (ids_below live z) w.lower.id) w.upper_id
        (below_in live w.upper w.lower w.has_upper w.has_lower (and_from (pieces_meet w.upper.piece w.lower.piece) (nat_lt w.lower.rank w.upper.rank) w.meet (lt w.less))))
      where
        lt : w.lower.rank < w.upper.rank → nat_lt w.lower.rank w.upper.rank ≡ true
        lt l = lt-ltb w.lower.rank w.upper.rank l

rank_here : (one : LivePiece) (live : List LivePiece) (id : ℕ) → one.id ≡ id → rank_in (one ∷ live) id ≡ one.rank
rank_here one live id same = cond-true _ _ _ (eq-eqb one.id id same)

-- the rank of a live piece's id is its own
pub rank_is : (live : List LivePiece) (one : LivePiece) → IsDistinct nat_eq (map (λ x. x.id) live) → Contains live one → rank_in live one.id ≡ one.rank
unfolding IsDistinct
rank_is [] one d c = absurd (contains_none one c)
rank_is (other ∷ live) one d c = elim (contains_cases other one live c) [
  | inl same ↦ rank_here other live one.id (ap (λ x. x.id) same) ∙ ap (λ x. x.rank) same
  | inr later ↦ cond-false _ _ _ (false_from_ne_true (other.id == one.id) (λ e.
      all_apart other.id (map (λ x. x.id) live) d.0 (subst (Contains (map (λ x. x.id) live)) (sym (eqb-true other.id one.id e)) (map_in (λ x. x.id) live one later))))
      ∙ rank_is live one d.1 later
]

-- ranks fall wherever an id is above another
pub ranks_fall : (live : List LivePiece) → IsDistinct nat_eq (map (λ x. x.id) live) → (a b : ℕ) → is_above live a b ≡ true → rank_in live b < rank_in live a
ranks_fall live d a b e =
    let w = above_is live a b e in
    let x : rank_in live a ≡ w.upper.rank = subst (λ z. rank_in live z ≡ w.upper.rank) w.upper_id (rank_is live w.upper d w.has_upper) in
    let y : rank_in live b ≡ w.lower.rank = subst (λ z. rank_in live z ≡ w.lower.rank) w.lower_id (rank_is live w.lower d w.has_lower) in
    let l : w.lower.rank < w.upper.rank = w.less in
    omega arith

-- the first live piece with an id, or another one where it isn't live
abbrev pub piece_in : LivePiece → List LivePiece → ℕ → LivePiece
piece_in none [] id = none
piece_in none (one ∷ live) id = if one.id == id then one else piece_in none live id

pub piece_is : (none : LivePiece) (live : List LivePiece) (one : LivePiece) → IsDistinct nat_eq (map (λ x. x.id) live) → Contains live one → piece_in none live one.id ≡ one
unfolding IsDistinct
piece_is none [] one d c = absurd (contains_none one c)
piece_is none (other ∷ live) one d c = elim (contains_cases other one live c) [
  | inl same ↦ cond-true _ _ _ (eq-eqb other.id one.id (ap (λ x. x.id) same)) ∙ same
  | inr later ↦ cond-false _ _ _ (false_from_ne_true (other.id == one.id) (λ e.
      all_apart other.id (map (λ x. x.id) live) d.0 (subst (Contains (map (λ x. x.id) live)) (sym (eqb-true other.id one.id e)) (map_in (λ x. x.id) live one later))))
      ∙ piece_is none live one d.1 later
]

-- a live id is that of a live piece
pub live_is : (live : List LivePiece) (id : ℕ) → is_live live id ≡ true → (one : LivePiece) × Contains live one × (one.id ≡ id)
live_is live id e = let w = any_is (λ one. one.id == id) live e in (w.0, w.1, eqb-true w.0.id id w.2)

pub is_live_from : (live : List LivePiece) (one : LivePiece) → Contains live one → is_live live one.id ≡ true
is_live_from live one c = any_from (λ x. x.id == one.id) live one c (eq-eqb one.id one.id refl)

-- two live pieces of one id are one
pub same_one : (live : List LivePiece) (a b : LivePiece) → IsDistinct nat_eq (map (λ x. x.id) live) → Contains live a → Contains live b → a.id ≡ b.id → a ≡ b
same_one live a b d has_a has_b same = sym (piece_is a live a d has_a) ∙ ap (piece_in a live) same ∙ piece_is a live b d has_b

-- which of two live pieces is above the other, by their ids
pub above_of : (live : List LivePiece) (upper lower : LivePiece) → IsDistinct nat_eq (map (λ x. x.id) live) → Contains live upper → Contains live lower
    → is_over upper lower ≡ is_above live upper.id lower.id
above_of live upper lower d has_upper has_lower = elim (cases_Bool (is_over upper lower)) [
  | inl over ↦ over ∙ sym (is_above_from live upper lower has_upper has_lower over)
  | inr apart ↦ apart ∙ sym (false_from_ne_true (is_above live upper.id lower.id) (λ e.
      let w = above_is live upper.id lower.id e in
      let u = same_one live w.upper upper d w.has_upper has_upper w.upper_id in
      let l = same_one live w.lower lower d w.has_lower has_lower w.lower_id in
      let over : is_over w.upper w.lower ≡ true = and_from _ _ w.meet (lt-ltb w.lower.rank w.upper.rank w.less) in
      both_ways (is_over upper lower) apart (sym (ap₂ is_over u l) ∙ over)))
]
