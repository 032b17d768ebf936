-- Entries that stand once and in order, before and after one of them is placed.
use Rattle.std.proofs.Common.{◌≡◌, ◌≢◌, ℕ, ◌+◌, ◌<◌, ◌≤◌, Bool, true, false, not, List, [], ◌∷◌, ◌++◌, length, map, take, drop, Contains, ◌⊎◌, inl, inr, refl, sym, ap, ap₂, subst, ◌∙◌, arith, ◌-◌}
use Rattle.std.specs.Prelude.{◌==◌, ◌||◌, nat_eq}
use Rattle.std.specs.List.{IsDistinct}
use Rattle.std.proofs.lemmas.Bool.{both_ways, false_from_ne_true, eq-eqb, and_from, lt-ltb}
use Rattle.std.proofs.lemmas.Bool.Decides.{eqb_tells}
use Rattle.std.proofs.lemmas.List.{length-append, length-map, append-nil, append_assoc, take-append-drop}
use Rattle.std.proofs.lemmas.List.Elements.{filter-append}
use Rattle.std.proofs.lemmas.List.Folds.{list_any-append}
use Rattle.slot_order.proofs.Lists.{contains_head, contains_tail, contains_cases, contains_none, map_in}
use Rattle.slot_pool.specs.Arrangement.{Slots}
use Rattle.placement.specs.declared.LivePiece.{LivePiece}
use Rattle.placement.specs.Live.{AreApart, MayTell, is_live, is_above, without_id}
use Rattle.placement.proofs.Live.{apart_more, all_apart}
use Rattle.placement.specs.declared.Move.{Move}
use Rattle.placement.proofs.Chain.{write_of, after_moves-applied}
use Rattle.slot_order.proofs.Inside.{length-applied}
use Rattle.std.proofs.Math.Seq.{drop-append_seam, take-append_seam}
use Rattle.slot_order.specs.Order.{most_slots}
use Rattle.placement.proofs.Above.{above_is, is_above_from, live_is, is_live_from}
use Rattle.placement.specs.Placement.{IsInOrder, after_moves}
use Rattle.placement.specs.Insertion.{IsLive, IsOther, StandOnce, free_slots}
use Rattle.batch_order.specs.Entries.{AreTold, Entries, AreLast}
use Rattle.batch_order.specs.Planning.{IsSettled, IsLastLive}
use Rattle.batch_order.proofs.Told.{no_home, told_added}

-- a member of a list and one more
in_one_more : (live : List LivePiece) (one x : LivePiece) → Contains (live ++ one ∷ []) x → Contains live x ⊎ (one ≡ x)
in_one_more [] one x c = elim (contains_cases one x [] c) [ inl same ↦ inr same | inr none ↦ absurd (contains_none x none) ]
in_one_more (other ∷ live) one x c = elim (contains_cases other x (live ++ one ∷ []) c) [
  | inl same ↦ inl (subst (λ z. Contains (other ∷ live) z) same (contains_head other live))
  | inr later ↦ elim (in_one_more live one x later) [ inl old ↦ inl (contains_tail other x live old) | inr same ↦ inr same ]
]

-- an id of the old ones is live still
pub live_still : (live : List LivePiece) (one : LivePiece) (id : ℕ) → is_live live id ≡ true → is_live (live ++ one ∷ []) id ≡ true
live_still live one id now = list_any-append (λ x. x.id == id) live (one ∷ []) ∙ rw now refl

-- and the new one is live
pub live_new : (live : List LivePiece) (one : LivePiece) → is_live (live ++ one ∷ []) one.id ≡ true
live_new [] one = rw (eq-eqb one.id one.id refl) refl
live_new (other ∷ live) one = go (other.id == one.id) (live_new live one)
  where
    go : (same : Bool) → is_live (live ++ one ∷ []) one.id ≡ true → (same || is_live (live ++ one ∷ []) one.id) ≡ true
    go true later = refl
    go false later = later

-- who is live and isn't the new one was live
live_before : (live : List LivePiece) (one : LivePiece) (id : ℕ) → is_live (live ++ one ∷ []) id ≡ true → id ≢ one.id → is_live live id ≡ true
live_before live one id now other =
    let w = live_is (live ++ one ∷ []) id now in
    elim (in_one_more live one w.0 w.1) [
      | inl old ↦ subst (λ z. is_live live z ≡ true) w.2 (is_live_from live w.0 old)
      | inr same ↦ absurd (other (sym (ap (λ x. x.id) same ∙ w.2)))
    ]

-- among the old ones nobody new is above
above_before : (live : List LivePiece) (one : LivePiece) (a b : ℕ) → is_above (live ++ one ∷ []) a b ≡ true → a ≢ one.id → b ≢ one.id → is_above live a b ≡ true
above_before live one a b now left right =
    let w = above_is (live ++ one ∷ []) a b now in
    let upper : Contains live w.upper = elim (in_one_more live one w.upper w.has_upper) [ inl old ↦ old | inr same ↦ absurd (left (sym (ap (λ x. x.id) same ∙ w.upper_id))) ] in
    let lower : Contains live w.lower = elim (in_one_more live one w.lower w.has_lower) [ inl old ↦ old | inr same ↦ absurd (right (sym (ap (λ x. x.id) same ∙ w.lower_id))) ] in
    let there : is_above live w.upper.id w.lower.id ≡ true = is_above_from live w.upper w.lower upper lower (and_from _ _ w.meet (lt-ltb w.lower.rank w.upper.rank w.less)) in
    subst (λ z. is_above live z b ≡ true) w.upper_id (subst (λ z. is_above live w.upper.id z ≡ true) w.lower_id there)

-- one more is live, and the others are settled
pub last_live : (old new : Entries) (slots : Slots) (one : LivePiece) → IsSettled old slots → length old.live < old.slots → one.id < old.slots → is_live old.live one.id ≡ false
    → new.live ≡ old.live ++ one ∷ [] → new.slots ≡ old.slots → MayTell old.told one.id new.told → AreTold old slots → IsLastLive new slots one.id
last_live old new slots one settled room small absent live_is slots_is may told = record {
  room = (let more : length new.live ≡ length old.live + 1 = ap length live_is ∙ length-append old.live (one ∷ []) in let s = slots_is in omega arith);
  size = settled.size ∙ sym slots_is;
  few = subst (λ n. n ≤ most_slots) (sym slots_is) settled.few;
  apart = subst (λ l. AreApart new.slots l) (sym live_is) (subst (λ n. AreApart n (old.live ++ one ∷ [])) (sym slots_is) (apart_more old.slots one old.live small absent settled.apart));
  live = subst (λ l. is_live l one.id ≡ true) (sym live_is) (live_new old.live one);
  standing = subst (λ l. StandOnce (IsOther l one.id) slots) (sym live_is) (record {
    within = λ at id is. let was = settled.standing.within at id is in (live_still old.live one id was, other id was);
    placed = λ id is. settled.standing.placed id (live_before old.live one id is.0 is.1);
    once = settled.standing.once;
  });
  order = subst (λ l. IsInOrder (is_above l) slots) (sym live_is) order;
  count = (let more : length new.live ≡ length old.live + 1 = ap length live_is ∙ length-append old.live (one ∷ []) in let was : free_slots slots + length old.live ≡ old.slots = settled.count in let s = slots_is in omega arith);
  told = told_added old new slots one live_is may (no_home slots one.id (λ at stands. both_ways (is_live old.live one.id) absent (settled.standing.within at one.id stands))) told;
}
  where
    other : (id : ℕ) → is_live old.live id ≡ true → id ≢ one.id
    other id was same = let now : is_live old.live one.id ≡ true = subst (λ z. is_live old.live z ≡ true) same was in let bad : true ≡ false = sym now ∙ absent in cc

    order : IsInOrder (is_above (old.live ++ one ∷ [])) slots
    order i j first second less a b = false_from_ne_true _ (λ now.
        let before = above_before old.live one second first now (other second (settled.standing.within j second b)) (other first (settled.standing.within i first a)) in
        let bad : true ≡ false = sym before ∙ settled.order i j first second less a b in cc)

-- it is placed
pub settled_again : (kept : Entries) (slots slots' : Slots) (id : ℕ) → IsLastLive kept slots id → length slots' ≡ length slots → StandOnce (IsLive kept.live) slots'
    → IsInOrder (is_above kept.live) slots' → free_slots slots' + 1 ≡ free_slots slots → IsSettled kept slots'
settled_again kept slots slots' id last size standing order free = record {
  size = size ∙ last.size;
  few = last.few;
  apart = last.apart;
  standing = standing;
  order = order;
  count = (let was : free_slots slots + length kept.live ≡ kept.slots + 1 = last.count in omega arith);
}

-- the arrangement keeps its size
pub size_after : (slots : Slots) (moves : List Move) → length (after_moves slots moves) ≡ length slots
size_after slots moves = ap length (after_moves-applied slots moves) ∙ length-applied slots (map write_of moves)

-- without an id that none has all are left
none_without : (live : List LivePiece) (id : ℕ) → is_live live id ≡ false → without_id live id ≡ live
none_without [] id none = refl
none_without (one ∷ live) id none = elim (eqb_tells one.id id) [
  | inl same ↦ absurd (let here : (one.id == id) ≡ true = same.0 in let k : (true || is_live live id) ≡ false = subst (λ b. (b || is_live live id) ≡ false) here none in let bad : true ≡ false = k in cc)
  | inr other ↦
      let here : (one.id == id) ≡ false = other.0 in
      let rest = none_without live id (subst (λ b. (b || is_live live id) ≡ false) here none) in
      rw here (ap (λ l. one ∷ l) rest)
]

-- without the last one the others are left
pub without_last : (live : List LivePiece) (one : LivePiece) → is_live live one.id ≡ false → without_id (live ++ one ∷ []) one.id ≡ live
without_last live one none =
    filter-append (λ x. not (x.id == one.id)) live (one ∷ [])
    ∙ (ap (λ l. l ++ without_id (one ∷ []) one.id) (none_without live one.id none)
    ∙ (ap (λ l. live ++ l) (let here : (one.id == one.id) ≡ true = eq-eqb one.id one.id refl in rw here refl) ∙ append-nil live))

last_in : (some : List LivePiece) (one : LivePiece) → Contains (some ++ one ∷ []) one
last_in [] one = contains_head one []
last_in (x ∷ some) one = contains_tail x one (some ++ one ∷ []) (last_in some one)

-- of distinct ids the last isn't one of the others
pub last_apart : (slots : ℕ) (live : List LivePiece) (one : LivePiece) → AreApart slots (live ++ one ∷ []) → is_live live one.id ≡ false
unfolding IsDistinct
last_apart slots live one apart = false_from_ne_true (is_live live one.id) (λ now. go live apart.once now)
  where
    go : (some : List LivePiece) → IsDistinct nat_eq (map (λ x. x.id) (some ++ one ∷ [])) → is_live some one.id ≡ true → ⊥
    go [] d now = let bad : false ≡ true = now in cc
    go (x ∷ some) d now = elim (eqb_tells x.id one.id) [
      | inl same ↦ all_apart x.id (map (λ y. y.id) (some ++ one ∷ [])) d.0
          (subst (λ z. Contains (map (λ y. y.id) (some ++ one ∷ [])) z) (sym same.1) (map_in (λ y. y.id) (some ++ one ∷ []) one (last_in some one)))
      | inr other ↦ go some d.1 (let test : (x.id == one.id) ≡ false = other.0 in subst (λ b. (b || is_live some one.id) ≡ true) test now)
    ]

-- a list of pieces whose ids end with one
record EndsWith (pieces : List LivePiece) (rest : List ℕ) (id : ℕ) : Type 0 where
  front : List LivePiece
  last : LivePiece
  parts : pieces ≡ front ++ last ∷ []
  ids : map (λ one. one.id) front ≡ rest
  is : last.id ≡ id

ends_with : (pieces : List LivePiece) (rest : List ℕ) (id : ℕ) → map (λ one. one.id) pieces ≡ rest ++ id ∷ [] → EndsWith pieces rest id
ends_with [] [] id same = absurd (cc)
ends_with [] (other ∷ rest) id same = absurd (cc)
ends_with (one ∷ []) [] id same = record { front = []; last = one; parts = refl; ids = refl; is = (cc) }
ends_with (one ∷ two ∷ more) [] id same = absurd (cc)
ends_with (one ∷ pieces) (other ∷ rest) id same =
    let head : one.id ≡ other = (cc) in
    let tail : map (λ x. x.id) pieces ≡ rest ++ id ∷ [] = (cc) in
    let w = ends_with pieces rest id tail in
    record {
      front = one ∷ w.front;
      last = w.last;
      parts = ap (λ l. one ∷ l) w.parts;
      ids = ap₂ (λ a b. a ∷ b) head w.ids;
      is = w.is;
    }

-- all but the last ones, and the last one of these
record LastOne (live : List LivePiece) (rest : List ℕ) (id : ℕ) : Type 0 where
  others : List LivePiece
  front : List LivePiece
  last : LivePiece
  parts : live ≡ (others ++ front) ++ last ∷ []
  ids : map (λ one. one.id) front ≡ rest
  is : last.id ≡ id
  base : take (length live - length (rest ++ id ∷ [])) live ≡ others

last_one : (live : List LivePiece) (rest : List ℕ) (id : ℕ) → AreLast live (rest ++ id ∷ []) → LastOne live rest id
last_one live rest id last =
    let n = length live - length (rest ++ id ∷ []) in
    let w = ends_with (drop n live) rest id last.1 in
    record {
      others = take n live;
      front = w.front;
      last = w.last;
      parts = sym (take-append-drop n live) ∙ (ap (λ l. take n live ++ l) w.parts ∙ sym (append_assoc (take n live) w.front (w.last ∷ [])));
      ids = w.ids;
      is = w.is;
      base = refl;
    }

-- the id that became live last is live
pub last_is_live : (live : List LivePiece) (ids rest : List ℕ) (id : ℕ) → AreLast live ids → ids ≡ rest ++ id ∷ [] → is_live live id ≡ true
last_is_live live ids rest id last parts =
    let w = last_one live rest id (subst (AreLast live) parts last) in
    subst (λ l. is_live l id ≡ true) (sym w.parts) (subst (λ i. is_live ((w.others ++ w.front) ++ w.last ∷ []) i ≡ true) w.is (live_new (w.others ++ w.front) w.last))

-- what it leaves where it is forgotten
pub record Forgets (live : List LivePiece) (ids rest : List ℕ) (id : ℕ) : Type 0 where
  pub last : AreLast (without_id live id) rest
  pub base : take (length (without_id live id) - length rest) (without_id live id) ≡ take (length live - length ids) live

pub forget_last : (slots : ℕ) (live : List LivePiece) (ids rest : List ℕ) (id : ℕ) → AreApart slots live → AreLast live ids → ids ≡ rest ++ id ∷ [] → Forgets live ids rest id
forget_last slots live ids rest id apart last parts =
    let w = last_one live rest id (subst (AreLast live) parts last) in
    let left : without_id live id ≡ w.others ++ w.front =
    subst (λ i. without_id live i ≡ w.others ++ w.front) w.is
    (subst (λ l. without_id l w.last.id ≡ w.others ++ w.front) (sym w.parts) (without_last (w.others ++ w.front) w.last (last_apart slots (w.others ++ w.front) w.last (subst (AreApart slots) w.parts apart)))) in
    let number : length rest ≡ length w.front = ap length (sym w.ids) ∙ length-map w.front (λ one. one.id) in
    let all : length (w.others ++ w.front) ≡ length w.others + length w.front = length-append w.others w.front in
    let cut : length (w.others ++ w.front) - length rest ≡ length w.others = omega arith in
    record {
      last = subst (λ l. AreLast l rest) (sym left) (omega arith, ap (λ k. map (λ one. one.id) (drop k (w.others ++ w.front))) cut ∙ (ap (map (λ one. one.id)) (drop-append_seam w.others w.front) ∙ w.ids));
      base = subst (λ l. take (length l - length rest) l ≡ take (length live - length ids) live) (sym left)
          (ap (λ k. take k (w.others ++ w.front)) cut ∙ (take-append_seam w.others w.front ∙ (sym w.base ∙ ap (λ n. take (length live - n) live) (sym (ap length parts)))));
    }
