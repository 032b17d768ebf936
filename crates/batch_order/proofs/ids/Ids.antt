-- Spare ids: those that aren't live, each once.
use Rattle.std.proofs.Common.{◌≡◌, ℕ, ◌+◌, ◌<◌, ◌≤◌, true, false, List, [], ◌∷◌, ◌++◌, length, Option, IsFalse, Contains, map, not, arith, inl, inr, refl, sym, ◌∙◌, subst, ap}
use Rattle.std.specs.Prelude.{◌==◌, ◌||◌, nat_eq}
use Rattle.std.specs.List.{AllByRecursion, IsDistinct}
use Rattle.std.proofs.lemmas.Bool.{false_from_ne_true, eqb-true, eq-eqb}
use Rattle.std.proofs.lemmas.Bool.Decides.{eqb_tells}
use Rattle.std.proofs.lemmas.List.{length-append}
use Rattle.std.proofs.lemmas.List.Folds.{list_any-append}
use Rattle.rule_model.specs.declared.words.Entry.{Entry}
use Rattle.placement.specs.declared.LivePiece.{LivePiece}
use Rattle.slot_order.proofs.Lists.{contains_head, contains_tail, all_append, any_is, any_from, in_filter}
use Rattle.placement.specs.Live.{AreApart, is_live, without_id}
use Rattle.placement.proofs.Live.{all_apart, apart_more, apart_filter}
use Rattle.batch_order.specs.Entries.{AreKept, AreAll}

-- the front of a list of which all members pass
all_front : (P : ℕ → Type 0) (front : List ℕ) (last : ℕ) → AllByRecursion P (front ++ last ∷ []) → AllByRecursion P front × P last
all_front P [] last all = (tt, all.0)
all_front P (id ∷ front) last all = let rest = all_front P front last all.1 in ((all.0, rest.0), rest.1)

-- the front of distinct ids is distinct, and hasn't the last
distinct_front : (front : List ℕ) (last : ℕ) → IsDistinct nat_eq (front ++ last ∷ []) → IsDistinct nat_eq front × AllByRecursion (λ id. nat_eq id last ≡ false) front
unfolding IsDistinct
distinct_front [] last d = (tt, tt)
distinct_front (id ∷ front) last d =
    let rest = distinct_front front last d.1 in
    let here = all_front (λ y. nat_eq id y ≡ false) front last d.0 in
    ((here.0, rest.0), (here.1, rest.1))

-- with one more live, an id that is another one and wasn't live isn't live
absent_still : (live : List LivePiece) (one : LivePiece) (id : ℕ) → nat_eq id one.id ≡ false → is_live live id ≡ false → is_live (live ++ one ∷ []) id ≡ false
absent_still live one id other absent = false_from_ne_true (is_live (live ++ one ∷ []) id) (λ now.
    let parts : is_live (live ++ one ∷ []) id ≡ (is_live live id || is_live (one ∷ []) id) = list_any-append (λ x. x.id == id) live (one ∷ []) in
    let flipped : nat_eq one.id id ≡ false = false_from_ne_true (nat_eq one.id id) (λ e. let same : nat_eq id one.id ≡ true = eq-eqb id one.id (sym (eqb-true one.id id e)) in let bad : true ≡ false = sym same ∙ other in cc) in
    let none : is_live (one ∷ []) id ≡ false = rw flipped refl in
    let bad : true ≡ false = sym now ∙ parts ∙ rw (absent, none) refl in cc)

-- the last spare id becomes live
pub kept_more : (slots : ℕ) (live : List LivePiece) (entries entries' : List (Option Entry)) (spare : List ℕ) (one : LivePiece)
    → AreKept slots live entries (spare ++ one.id ∷ []) → length entries' ≡ length entries → AreKept slots (live ++ one ∷ []) entries' spare
kept_more slots live entries entries' spare one kept same =
    let apart = distinct_front spare one.id kept.once in
    let absent = all_front (λ id. IsFalse (is_live live id)) spare one.id kept.absent in
    let longer : length (spare ++ one.id ∷ []) ≡ length spare + 1 = length-append spare (one.id ∷ []) in
    let more : length (live ++ one ∷ []) ≡ length live + 1 = length-append live (one ∷ []) in
    record {
      places = same ∙ kept.places;
      few = kept.few;
      count = (let before : length (spare ++ one.id ∷ []) + length live ≡ slots = kept.count in omega arith);
      small = (all_front (λ id. id < slots) spare one.id kept.small).0;
      absent = go spare apart.1 absent.0;
      once = apart.0;
      apart = apart_more slots one live (all_front (λ id. id < slots) spare one.id kept.small).1 absent.1 kept.apart;
    }
  where
    go : (ids : List ℕ) → AllByRecursion (λ id. nat_eq id one.id ≡ false) ids → AllByRecursion (λ id. IsFalse (is_live live id)) ids → AllByRecursion (λ id. IsFalse (is_live (live ++ one ∷ []) id)) ids
    go [] other absent = tt
    go (id ∷ ids) other absent = (absent_still live one id other.0 absent.0, go ids other.1 absent.1)

-- without an id it isn't live
pub gone : (live : List LivePiece) (id : ℕ) → is_live (without_id live id) id ≡ false
gone live id = false_from_ne_true (is_live (without_id live id) id) (λ now.
    let w = any_is (λ x. x.id == id) (without_id live id) now in
    let kept = in_filter (λ x. not (x.id == id)) live w.0 w.1 in
    let bad : not true ≡ true = subst (λ b. not b ≡ true) w.2 kept.1 in cc)

-- and what wasn't live still isn't
pub absent_without : (live : List LivePiece) (id other : ℕ) → is_live live other ≡ false → is_live (without_id live id) other ≡ false
absent_without live id other absent = false_from_ne_true (is_live (without_id live id) other) (λ now.
    let w = any_is (λ x. x.id == other) (without_id live id) now in
    let kept = in_filter (λ x. not (x.id == id)) live w.0 w.1 in
    let was : is_live live other ≡ true = any_from (λ x. x.id == other) live w.0 kept.0 w.2 in
    let bad : true ≡ false = sym was ∙ absent in cc)

-- ids none of which is this one
all_others : (live : List LivePiece) (id : ℕ) → (Contains (map (λ x. x.id) live) id → ⊥) → without_id live id ≡ live
all_others [] id none = refl
all_others (one ∷ live) id none =
    let here : (one.id == id) ≡ false = false_from_ne_true (one.id == id) (λ e. none (subst (λ z. Contains (map (λ x. x.id) (one ∷ live)) z) (eqb-true one.id id e) (contains_head one.id (map (λ x. x.id) live)))) in
    let rest = all_others live id (λ c. none (contains_tail one.id id (map (λ x. x.id) live) c)) in
    rw here (ap (λ l. one ∷ l) rest)

-- one fewer is live without a live id
pub length_without : (live : List LivePiece) (id : ℕ) → IsDistinct nat_eq (map (λ x. x.id) live) → is_live live id ≡ true → length (without_id live id) + 1 ≡ length live
unfolding IsDistinct
length_without [] id d now = let bad : false ≡ true = now in absurd (cc)
length_without (one ∷ live) id d now = elim (eqb_tells one.id id) [
  | inl same ↦
      let others : without_id live id ≡ live = all_others live id (λ c. all_apart one.id (map (λ x. x.id) live) d.0 (subst (λ z. Contains (map (λ x. x.id) live) z) (sym same.1) c)) in
      let test : (one.id == id) ≡ true = same.0 in
      rw (test, others) (omega arith)
  | inr other ↦
      let test : (one.id == id) ≡ false = other.0 in
      let later : is_live live id ≡ true = subst (λ b. (b || is_live live id) ≡ true) test now in
      let rest : length (without_id live id) + 1 ≡ length live = length_without live id d.1 later in
      rw test (let e : length (without_id live id) + 1 ≡ length live = rest in omega arith)
]

-- ids that aren't live aren't this live one
apart_from_live : (live : List LivePiece) (id : ℕ) (spare : List ℕ) → is_live live id ≡ true → AllByRecursion (λ other. IsFalse (is_live live other)) spare → IsDistinct nat_eq spare → IsDistinct nat_eq (spare ++ id ∷ [])
unfolding IsDistinct
apart_from_live live id [] now absent d = (tt, tt)
apart_from_live live id (other ∷ spare) now absent d =
    let here : nat_eq other id ≡ false = false_from_ne_true (nat_eq other id) (λ e. let was : is_live live other ≡ true = subst (λ z. is_live live z ≡ true) (sym (eqb-true other id e)) now in let bad : true ≡ false = sym was ∙ absent.0 in cc) in
    (all_append (λ y. nat_eq other y ≡ false) spare (id ∷ []) d.0 (here, tt), apart_from_live live id spare now absent.1 d.1)

-- a live id is small
pub live_small : (slots : ℕ) (live : List LivePiece) (id : ℕ) → AreApart slots live → is_live live id ≡ true → id < slots
live_small slots live id apart now = go live apart.small now
  where
    go : (some : List LivePiece) → AllByRecursion (λ one. one.id < slots) some → is_live some id ≡ true → id < slots
    go [] small now = let bad : false ≡ true = now in absurd (cc)
    go (one ∷ some) small now = elim (eqb_tells one.id id) [
      | inl same ↦ subst (λ z. z < slots) same.1 small.0
      | inr other ↦ let test : (one.id == id) ≡ false = other.0 in go some small.1 (subst (λ b. (b || is_live some id) ≡ true) test now)
    ]

-- a live id becomes spare
pub kept_less : (slots : ℕ) (live : List LivePiece) (entries entries' : List (Option Entry)) (spare : List ℕ) (id : ℕ)
    → AreKept slots live entries spare → is_live live id ≡ true → length entries' ≡ length entries
    → AreKept slots (without_id live id) entries' (spare ++ id ∷ [])
kept_less slots live entries entries' spare id kept now same =
    let small = live_small slots live id kept.apart now in
    let longer : length (spare ++ id ∷ []) ≡ length spare + 1 = length-append spare (id ∷ []) in
    let fewer : length (without_id live id) + 1 ≡ length live = length_without live id kept.apart.once now in
    record {
      places = same ∙ kept.places;
      few = kept.few;
      count = (let before : length spare + length live ≡ slots = kept.count in omega arith);
      small = all_append (λ other. other < slots) spare (id ∷ []) kept.small (small, tt);
      absent = all_append (λ other. IsFalse (is_live (without_id live id) other)) spare (id ∷ []) (go spare kept.absent) (gone live id, tt);
      once = apart_from_live live id spare now kept.absent kept.once;
      apart = apart_filter slots (λ one. not (one.id == id)) live kept.apart;
    }
  where
    go : (ids : List ℕ) → AllByRecursion (λ other. IsFalse (is_live live other)) ids → AllByRecursion (λ other. IsFalse (is_live (without_id live id) other)) ids
    go [] absent = tt
    go (other ∷ ids) absent = (absent_without live id other absent.0, go ids absent.1)

-- one id more, greater than the others
pub rising_more : (ids : List ℕ) (id : ℕ) → AllByRecursion (λ other. other < id) ids → IsDistinct nat_eq ids → IsDistinct nat_eq (ids ++ id ∷ [])
unfolding IsDistinct
rising_more [] id below d = (tt, tt)
rising_more (other ∷ ids) id below d =
    let here : nat_eq other id ≡ false = false_from_ne_true (nat_eq other id) (λ e. let same : other ≡ id = eqb-true other id e in let less : other < id = below.0 in absurd (omega arith)) in
    (all_append (λ y. nat_eq other y ≡ false) ids (id ∷ []) d.0 (here, tt), rising_more ids id below.1 d.1)

pub all_weaker : (a b : ℕ) (ids : List ℕ) → a ≤ b → AllByRecursion (λ id. id < a) ids → AllByRecursion (λ id. id < b) ids
all_weaker a b [] le all = tt
all_weaker a b (id ∷ ids) le all = ((let less : id < a = all.0 in omega arith), all_weaker a b ids le all.1)

pub all_none : AreAll 0 []
unfolding IsDistinct
all_none = record { count = refl; small = tt; once = tt }

pub all_more : (id : ℕ) (ids : List ℕ) → AreAll id ids → AreAll (id + 1) (ids ++ id ∷ [])
all_more id ids all =
    record {
      count = (let longer : length (ids ++ id ∷ []) ≡ length ids + 1 = length-append ids (id ∷ []) in let was : length ids ≡ id = all.count in omega arith);
      small = all_append (λ other. other < id + 1) ids (id ∷ []) (all_weaker id (id + 1) ids (omega arith) all.small) (omega arith, tt);
      once = rising_more ids id all.small all.once;
    }
