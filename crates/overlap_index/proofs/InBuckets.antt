-- The live ids in buckets, with one more and with one less.
use Rattle.std.proofs.Common.{◌≡◌, ◌≢◌, ℕ, ◌+◌, ◌<◌, ◌≤◌, true, false, List, [], ◌∷◌, ◌++◌, length, set, Contains, inl, inr, ◌⊎◌, refl, sym, ◌∙◌, ap, subst, arith, ne_eqb}
use Rattle.std.specs.Prelude.{◌↔◌, ◌==◌, not}
use Rattle.std.specs.List.{IsDistinct}
use Rattle.std.proofs.lemmas.Bool.{both_ways, cases_eq}
use Rattle.std.proofs.lemmas.List.{length-set, length-replicate, get_or-replicate, get_or-set_other}
use Rattle.std.proofs.lemmas.List.Elements.{Contains-push, Contains-push_cases, Contains-append_left}
use Rattle.slot_order.specs.Order.{most_slots}
use Rattle.slot_order.proofs.Lists.{AllByRecursion-member, contains_head, contains_tail, contains_cases, contains_none, in_filter, filter_in}
use Rattle.rule_model.specs.declared.Piece.{Piece}
use Rattle.placement.specs.declared.LivePiece.{LivePiece}
use Rattle.placement.specs.Live.{AreApart, is_live, without_id}
use Rattle.placement.proofs.Above.{is_live_from, same_one}
use Rattle.placement.proofs.Live.{all_apart_from}
use Rattle.overlap_index.specs.Buckets.{Links, nil, no_links, bucket_of, next_of, IsPath, IsOnPath, ids_in, before_of, with_first, without_link, IsInBucket, IsBucket, AreBuckets}
use Rattle.overlap_index.proofs.Paths.{others, path_frame, path_ids, path_came, path_went, distinct_few, distinct_others, before_in}

-- where buckets stand
bucket_low : (slots : ℕ) (piece : Piece) (rank : ℕ) → slots ≤ bucket_of slots piece rank
bucket_low slots piece rank = omega arith

bucket_high : (slots : ℕ) (piece : Piece) (rank : ℕ) → 1 ≤ slots → bucket_of slots piece rank < slots + slots
bucket_high slots piece rank some = omega arith

-- an id in a bucket is small
in_small : (slots bucket : ℕ) (live : List LivePiece) (id : ℕ) → AreApart slots live → IsInBucket slots bucket live id → id < slots
in_small slots bucket live id apart w = subst (λ n. n < slots) w.2 (AllByRecursion-member (λ (x : LivePiece). x.id < slots) live w.0 apart.small w.1)

module _ (slots : ℕ) (live : List LivePiece) (links : Links) (apart : AreApart slots live) (are : AreBuckets slots live links) (bucket : ℕ) (low : slots ≤ bucket) (high : bucket < slots + slots) where
  abbrev there : IsBucket slots bucket live links.nexts
  there = are.each bucket low high

  few : length there.ids ≤ length links.nexts
  few =
      let size = are.many in
      let most = distinct_few there.ids slots there.once (λ id c. in_small slots bucket live id apart ((there.exact id).0 c)) in
      omega arith

  -- the ids of a bucket end
  pub bucket_ends : IsOnPath links.nexts (next_of links.nexts bucket)
  bucket_ends = record { ids = there.ids; path = there.path; few = few }

  pub bucket_ids : ids_in links bucket ≡ there.ids
  bucket_ids = path_ids links.nexts (length links.nexts) (next_of links.nexts bucket) there.ids there.path few

  -- no bucket has this id, nor is a bucket one
  pub bucket_off : (id : ℕ) → slots ≤ id → Contains there.ids id → ⊥
  bucket_off id far c = let small = in_small slots bucket live id apart ((there.exact id).0 c) in omega arith

-- the bucket that a piece and a priority lead to
module _ (slots : ℕ) (live : List LivePiece) (links : Links) (apart : AreApart slots live) (are : AreBuckets slots live links) (piece : Piece) (rank : ℕ) where
  abbrev place : ℕ
  place = bucket_of slots piece rank

  place_low : slots ≤ place
  place_low = bucket_low slots piece rank

  place_high : place < slots + slots
  place_high = bucket_high slots piece rank are.some

  same_place : place ≡ bucket_of links.slots piece rank
  same_place = ap (λ n. bucket_of n piece rank) (sym are.size)

  pub ends_at : IsOnPath links.nexts (next_of links.nexts (bucket_of links.slots piece rank))
  ends_at = subst (λ b. IsOnPath links.nexts (next_of links.nexts b)) same_place (bucket_ends slots live links apart are place place_low place_high)

  pub ids_at : (id : ℕ) → Contains (ids_in links (bucket_of links.slots piece rank)) id ↔ IsInBucket slots place live id
  ids_at id =
      let same : ids_in links (bucket_of links.slots piece rank) ≡ (are.each place place_low place_high).ids =
      ap (ids_in links) (sym same_place) ∙ bucket_ids slots live links apart are place place_low place_high in
      subst (λ xs. Contains xs id ↔ IsInBucket slots place live id) (sym same) ((are.each place place_low place_high).exact id)

-- nothing is live
pub buckets_none : (slots : ℕ) → 1 ≤ slots → AreBuckets slots [] (no_links slots)
unfolding IsDistinct
buckets_none slots some = record {
  some = some;
  size = refl;
  many = length-replicate (slots + slots) nil;
  each = λ bucket low high. record {
    ids = [];
    path = get_or-replicate (slots + slots) bucket nil nil high;
    once = tt;
    exact = λ id. (λ c. absurd (contains_none id c), λ w. absurd (contains_none w.0 w.1));
  };
}

-- where one more is live, another bucket has the same ids
more_elsewhere : (slots bucket : ℕ) (one : LivePiece) (live : List LivePiece) (ids : List ℕ) → bucket_of slots one.piece one.rank ≢ bucket → ((id : ℕ) → Contains ids id ↔ IsInBucket slots bucket live id)
    → (id : ℕ) → Contains ids id ↔ IsInBucket slots bucket (live ++ one ∷ []) id
more_elsewhere slots bucket one live ids other exact id = (
  λ c. let w = (exact id).0 c in (w.0, Contains-append_left live (one ∷ []) w.0 w.1, w.2, w.3),
  λ w. elim (Contains-push_cases live one w.0 w.1) [
    | inl c ↦ (exact id).1 (w.0, c, w.2, w.3)
    | inr e ↦ absurd (other (ap (λ (x : LivePiece). bucket_of slots x.piece x.rank) e ∙ w.3))
  ],
)

-- and its own has its id in front
more_here : (slots bucket : ℕ) (one : LivePiece) (live : List LivePiece) (ids : List ℕ) → bucket_of slots one.piece one.rank ≡ bucket → ((id : ℕ) → Contains ids id ↔ IsInBucket slots bucket live id)
    → (id : ℕ) → Contains (one.id ∷ ids) id ↔ IsInBucket slots bucket (live ++ one ∷ []) id
more_here slots bucket one live ids here exact id = (
  λ c. elim (contains_cases one.id id ids c) [
    | inl e ↦ (one, Contains-push live one, e, here)
    | inr i ↦ let w = (exact id).0 i in (w.0, Contains-append_left live (one ∷ []) w.0 w.1, w.2, w.3)
  ],
  λ w. elim (Contains-push_cases live one w.0 w.1) [
    | inl c ↦ contains_tail one.id id ids ((exact id).1 (w.0, c, w.2, w.3))
    | inr e ↦ subst (Contains (one.id ∷ ids)) (ap (λ (x : LivePiece). x.id) e ∙ w.2) (contains_head one.id ids)
  ],
)

pub buckets_more : (slots : ℕ) (one : LivePiece) (live : List LivePiece) (links : Links) → slots ≤ most_slots → one.id < slots → is_live live one.id ≡ false → AreApart slots live → AreBuckets slots live links
    → AreBuckets slots (live ++ one ∷ []) (with_first links (bucket_of slots one.piece one.rank) one.id)
unfolding IsDistinct
buckets_more slots one live links most small absent apart are = record {
  some = are.some;
  size = are.size;
  many = length-set (set links.nexts one.id first) own one.id ∙ length-set links.nexts one.id first ∙ are.many;
  each = λ bucket low high. elim (cases_eq own bucket) [
    | inl here ↦
        let was = are.each bucket low high in
        record {
          ids = one.id ∷ was.ids;
          path = subst (λ b. IsPath (set (set links.nexts one.id (next_of links.nexts b)) b one.id) (next_of (set (set links.nexts one.id (next_of links.nexts b)) b one.id) bucket) (one.id ∷ was.ids)) (sym here)
              (path_came links.nexts bucket one.id was.ids (let size = are.many in omega arith) (let size = are.many in omega arith) (omega arith) (λ e. omega arith)
              (new_off bucket low high) (bucket_off slots live links apart are bucket low high bucket low) was.path);
          once = (all_apart_from one.id was.ids (new_off bucket low high), was.once);
          exact = more_here slots bucket one live was.ids here was.exact;
        }
    | inr other ↦
        let was = are.each bucket low high in
        let next : next_of (set (set links.nexts one.id first) own one.id) bucket ≡ next_of links.nexts bucket =
        get_or-set_other (set links.nexts one.id first) own bucket one.id nil (λ e. other (sym e)) ∙ get_or-set_other links.nexts one.id bucket first nil (λ e. omega arith) in
        record {
          ids = was.ids;
          path = subst (λ z. IsPath (set (set links.nexts one.id first) own one.id) z was.ids) (sym next)
              (path_frame (set links.nexts one.id first) own one.id (next_of links.nexts bucket) was.ids (bucket_off slots live links apart are bucket low high own own_low)
              (path_frame links.nexts one.id first (next_of links.nexts bucket) was.ids (new_off bucket low high) was.path));
          once = was.once;
          exact = more_elsewhere slots bucket one live was.ids other was.exact;
        }
  ];
}
  where
    own : ℕ
    own = bucket_of slots one.piece one.rank

    first : ℕ
    first = next_of links.nexts own

    own_low : slots ≤ own
    own_low = bucket_low slots one.piece one.rank

    -- no bucket has the id that isn't live
    new_off : (bucket : ℕ) (low : slots ≤ bucket) (high : bucket < slots + slots) → Contains (are.each bucket low high).ids one.id → ⊥
    new_off bucket low high c =
        let w = ((are.each bucket low high).exact one.id).0 c in
        both_ways (is_live live one.id) absent (subst (λ id. is_live live id ≡ true) w.2 (is_live_from live w.0 w.1))

-- where an id goes, another bucket has the same ids
less_elsewhere : (slots bucket : ℕ) (one : LivePiece) (live : List LivePiece) (ids : List ℕ) → AreApart slots live → Contains live one → bucket_of slots one.piece one.rank ≢ bucket
    → ((id : ℕ) → Contains ids id ↔ IsInBucket slots bucket live id) → (id : ℕ) → Contains ids id ↔ IsInBucket slots bucket (without_id live one.id) id
less_elsewhere slots bucket one live ids apart has other exact id = (
  λ c.
      let w = (exact id).0 c in
      let stays : w.0.id ≢ one.id = λ e. other (ap (λ (x : LivePiece). bucket_of slots x.piece x.rank) (sym (same_one live w.0 one apart.once w.1 has e)) ∙ w.3) in
      (w.0, filter_in (λ x. not (x.id == one.id)) live w.0 w.1 (ap not (ne_eqb w.0.id one.id stays)), w.2, w.3),
  λ w. (exact id).1 (w.0, (in_filter (λ (x : LivePiece). not (x.id == one.id)) live w.0 w.1).0, w.2, w.3),
)

-- and its own has the others
less_here : (slots bucket gone : ℕ) (live : List LivePiece) (ids : List ℕ) → ((id : ℕ) → Contains ids id ↔ IsInBucket slots bucket live id)
    → (id : ℕ) → Contains (others gone ids) id ↔ IsInBucket slots bucket (without_id live gone) id
less_here slots bucket gone live ids exact id = (
  λ c.
      let f = in_filter (λ other. not (other == gone)) ids id c in
      let w = (exact id).0 f.0 in
      (w.0, filter_in (λ x. not (x.id == gone)) live w.0 w.1 (subst (λ n. not (n == gone) ≡ true) (sym w.2) f.1), w.2, w.3),
  λ w.
      let f = in_filter (λ (x : LivePiece). not (x.id == gone)) live w.0 w.1 in
      filter_in (λ other. not (other == gone)) ids id ((exact id).1 (w.0, f.0, w.2, w.3)) (subst (λ n. not (n == gone) ≡ true) w.2 f.1),
)

pub buckets_less : (slots : ℕ) (one : LivePiece) (live : List LivePiece) (links : Links) → AreApart slots live → Contains live one → AreBuckets slots live links
    → AreBuckets slots (without_id live one.id) (without_link links (bucket_of slots one.piece one.rank) one.id)
buckets_less slots one live links apart has are = record {
  some = are.some;
  size = are.size;
  many = length-set links.nexts before (next_of links.nexts one.id) ∙ are.many;
  each = λ bucket low high. elim (cases_eq own bucket) [
    | inl here ↦
        let was = are.each bucket low high in
        let at : before ≡ before_of bucket was.ids one.id = ap (λ b. before_of b (ids_in links b) one.id) here ∙ ap (λ xs. before_of bucket xs one.id) (bucket_ids slots live links apart are bucket low high) in
        record {
          ids = others one.id was.ids;
          path = subst (λ b. IsPath (set links.nexts b (next_of links.nexts one.id)) (next_of (set links.nexts b (next_of links.nexts one.id)) bucket) (others one.id was.ids)) (sym at)
              (path_went links.nexts bucket one.id was.ids (let size = are.many in omega arith) (bucket_off slots live links apart are bucket low high bucket low) was.once
              ((was.exact one.id).1 (one, has, refl, here)) was.path);
          once = distinct_others one.id was.ids was.once;
          exact = less_here slots bucket one.id live was.ids was.exact;
        }
    | inr other ↦
        let was = are.each bucket low high in
        let apart_from : before ≢ bucket = (λ e. elim at_own [ inl h ↦ other (sym h ∙ e) | inr c ↦ bucket_off slots live links apart are own own_low own_high bucket low (subst (Contains mine.ids) e c) ]) in
        record {
          ids = was.ids;
          path = subst (λ z. IsPath (set links.nexts before (next_of links.nexts one.id)) z was.ids) (sym (get_or-set_other links.nexts before bucket (next_of links.nexts one.id) nil (λ e. apart_from (sym e))))
              (path_frame links.nexts before (next_of links.nexts one.id) (next_of links.nexts bucket) was.ids (λ c. elim at_own [
                | inl h ↦ bucket_off slots live links apart are bucket low high own own_low (subst (Contains was.ids) h c)
                | inr d ↦ other (in_one ((mine.exact before).0 d) ((was.exact before).0 c))
              ]) was.path);
          once = was.once;
          exact = less_elsewhere slots bucket one live was.ids apart has other was.exact;
        }
  ];
}
  where
    own : ℕ
    own = bucket_of slots one.piece one.rank

    own_low : slots ≤ own
    own_low = bucket_low slots one.piece one.rank

    own_high : own < slots + slots
    own_high = bucket_high slots one.piece one.rank are.some

    mine : IsBucket slots own live links.nexts
    mine = are.each own own_low own_high

    before : ℕ
    before = before_of own (ids_in links own) one.id

    at_own : (before ≡ own) ⊎ Contains mine.ids before
    at_own =
        let same : before ≡ before_of own mine.ids one.id = ap (λ xs. before_of own xs one.id) (bucket_ids slots live links apart are own own_low own_high) in
        subst (λ b. (b ≡ own) ⊎ Contains mine.ids b) (sym same) (before_in own one.id mine.ids)

    -- an id is in one bucket
    in_one : {first second id : ℕ} → IsInBucket slots first live id → IsInBucket slots second live id → first ≡ second
    in_one a b = sym a.3 ∙ ap (λ (x : LivePiece). bucket_of slots x.piece x.rank) (same_one live a.0 b.0 apart.once a.1 b.1 (a.2 ∙ sym b.2)) ∙ b.3
