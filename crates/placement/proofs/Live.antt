-- Live ids: each stands once, and the index's test says who overlaps whom and is higher.
use Rattle.std.proofs.Common.{◌≡◌, ℕ, ◌<◌, Bool, false, List, [], ◌∷◌, ◌++◌, map, filter, Contains, get_or, inl, inr, refl, sym, ◌∙◌, subst}
use Rattle.std.specs.Prelude.{◌==◌, nat_eq}
use Rattle.std.specs.List.{AllByRecursion, IsDistinct}
use Rattle.std.specs.Cmp.{nat_eq_equiv}
use Rattle.std.proofs.lemmas.Bool.{both_ways, cases_Bool, cond-true, cond-false, false_from_ne_true, eqb-true, eq-eqb}
use Rattle.std.proofs.lemmas.List.{get_or_default, map_push}
use Rattle.std.proofs.lemmas.List.Elements.{All-filter, All-from_recursion, recursion_from_All}
use Rattle.std.proofs.lemmas.Map.Keys.{IsDistinct-push}
use Rattle.slot_order.proofs.Lists.{all_append, AllByRecursion-member, any_is, any_from, in_map, map_in, in_filter}
use Rattle.placement.specs.declared.LivePiece.{LivePiece}
use Rattle.placement.specs.Live.{AreApart, is_live}

-- the ids of some live pieces
abbrev ids : List LivePiece → List ℕ
ids live = map (λ one. one.id) live

-- an id that isn't among some others
pub all_apart : (id : ℕ) (others : List ℕ) → AllByRecursion (λ other. nat_eq id other ≡ false) others → Contains others id → ⊥
all_apart id others all c =
    both_ways (nat_eq id id) (AllByRecursion-member (λ other. nat_eq id other ≡ false) others id all c) (eq-eqb id id refl)

pub all_apart_from : (id : ℕ) (others : List ℕ) → (Contains others id → ⊥) → AllByRecursion (λ other. nat_eq id other ≡ false) others
all_apart_from id others apart =
    recursion_from_All (λ other. nat_eq id other ≡ false) others (λ k other inside.
    false_from_ne_true _ (λ e. apart (k, inside, get_or_default others k id other inside ∙ sym (eqb-true id (get_or others k other) e))))

-- what is filtered from distinct ids is distinct
pub distinct_filter : (p : LivePiece → Bool) (live : List LivePiece) → IsDistinct nat_eq (ids live) → IsDistinct nat_eq (ids (filter p live))
unfolding IsDistinct
distinct_filter p [] d = d
distinct_filter p (one ∷ live) d = elim (cases_Bool (p one)) [
  | inr miss ↦ subst (λ xs. IsDistinct nat_eq (ids xs)) (sym (cond-false _ _ _ miss)) (distinct_filter p live d.1)
  | inl hit ↦ subst (λ xs. IsDistinct nat_eq (ids xs)) (sym (cond-true _ _ _ hit)) (
    all_apart_from one.id (ids (filter p live)) (λ c.
        let w = in_map (λ x. x.id) (filter p live) one.id c in
        let f = in_filter p live w.0 w.1 in
        all_apart one.id (ids live) d.0 (subst (λ id. Contains (ids live) id) w.2 (map_in (λ x. x.id) live w.0 f.0))),
    distinct_filter p live d.1,
  )
]

pub apart_filter : (slots : ℕ) (p : LivePiece → Bool) (live : List LivePiece) → AreApart slots live → AreApart slots (filter p live)
apart_filter slots p live apart =
    let Small = λ (one : LivePiece). one.id < slots in
    record {
      small = recursion_from_All Small (filter p live) (All-filter p Small live (All-from_recursion Small live apart.small));
      once = distinct_filter p live apart.once;
    }

-- no id is live yet
pub apart_none : (slots : ℕ) → AreApart slots []
unfolding IsDistinct
apart_none slots = record { small = tt; once = tt }

-- one more live id
distinct_more : (one : LivePiece) (live : List LivePiece) → is_live live one.id ≡ false → IsDistinct nat_eq (ids live) → IsDistinct nat_eq (ids (live ++ one ∷ []))
distinct_more one live absent d =
    subst (IsDistinct nat_eq) (sym (map_push (λ (x : LivePiece). x.id) live one)) (IsDistinct-push nat_eq_equiv (ids live) one.id d (false_from_ne_true _ (λ e.
    let w = any_is (nat_eq one.id) (ids live) e in
    let v = in_map (λ (x : LivePiece). x.id) live w.0 w.1 in
    both_ways _ absent (any_from (λ x. x.id == one.id) live v.0 v.1 (eq-eqb v.0.id one.id (v.2 ∙ sym (eqb-true one.id w.0 w.2)))))))

pub apart_more : (slots : ℕ) (one : LivePiece) (live : List LivePiece) → one.id < slots → is_live live one.id ≡ false → AreApart slots live → AreApart slots (live ++ one ∷ [])
apart_more slots one live small absent apart =
    record { small = all_append (λ x. x.id < slots) live (one ∷ []) apart.small (small, tt); once = distinct_more one live absent apart.once }
