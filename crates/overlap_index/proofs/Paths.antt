-- Ids that follow one another, where one comes or goes.
use Rattle.std.proofs.Common.{◌≡◌, ◌≢◌, ℕ, zero, suc, ◌<◌, ◌≤◌, List, [], ◌∷◌, length, filter, set, Contains, inl, inr, ◌⊎◌, refl, sym, ◌∙◌, ap, subst, arith, ne_eqb, eq-eqb, get_or-set_same, get_or-set_other}
use Rattle.std.specs.Prelude.{◌==◌, nat_eq, not}
use Rattle.std.specs.List.{IsDistinct}
use Rattle.std.proofs.lemmas.Bool.{cases_Bool, cases_eq, cond-true, cond-false, eqb-true}
use Rattle.std.proofs.lemmas.List.{length-set}
use Rattle.std.proofs.lemmas.Map.Steps.{length-le_from_distinct_below}
use Rattle.slot_order.proofs.Lists.{contains_head, contains_tail, contains_cases, contains_none, any_is, in_filter}
use Rattle.placement.proofs.Live.{all_apart, all_apart_from}
use Rattle.overlap_index.specs.Buckets.{nil, next_of, IsPath, IsOnPath, ids_from, before_of}

-- what is written at another place changes no path
pub path_frame : (nexts : List ℕ) (at v from : ℕ) (ids : List ℕ) → (Contains ids at → ⊥) → IsPath nexts from ids → IsPath (set nexts at v) from ids
path_frame nexts at v from [] off p = p
path_frame nexts at v from (id ∷ ids) off p = (
  p.0,
  subst (λ n. id < n) (sym (length-set nexts at v)) p.1,
  p.2,
  subst (λ z. IsPath (set nexts at v) z ids) (sym (get_or-set_other nexts at id v nil (λ e. off (subst (Contains (id ∷ ids)) e (contains_head id ids)))))
      (path_frame nexts at v (next_of nexts id) ids (λ c. off (contains_tail id at ids c)) p.3),
)

-- a path, read on with room for as many ids
pub path_ids : (nexts : List ℕ) (n from : ℕ) (ids : List ℕ) → IsPath nexts from ids → length ids ≤ n → ids_from nexts n from ≡ ids
path_ids nexts zero from [] p few = refl
path_ids nexts (suc n) from [] p few = cond-true _ _ _ (eq-eqb from nil p)
path_ids nexts zero from (id ∷ ids) p few = absurd (omega arith)
path_ids nexts (suc n) from (id ∷ ids) p few =
    cond-false _ _ _ (ne_eqb from nil (λ e. let same = p.0 in let small = p.2 in omega arith))
    ∙ ap (λ z. z ∷ ids_from nexts n (next_of nexts z)) p.0 ∙ ap (λ xs. id ∷ xs) (path_ids nexts n (next_of nexts id) ids p.3 (omega arith))

-- from a place on: its own id, and those that follow
pub record IsStep (nexts : List ℕ) (from : ℕ) : Type 0 where
  pub here : from < length nexts
  pub rest : IsOnPath nexts (next_of nexts from)
  pub all : ids_from nexts (length nexts) from ≡ from ∷ ids_from nexts (length nexts) (next_of nexts from)

pub step : (nexts : List ℕ) (from : ℕ) → from ≢ nil → IsOnPath nexts from → IsStep nexts from
step nexts from some on = go on.ids on.path on.few
  where
    go : (ids : List ℕ) → IsPath nexts from ids → length ids ≤ length nexts → IsStep nexts from
    go [] p few = absurd (some p)
    go (id ∷ ids) p few =
        let after : IsPath nexts (next_of nexts from) ids = subst (λ z. IsPath nexts (next_of nexts z) ids) (sym p.0) p.3 in
        let less : length ids ≤ length nexts = omega arith in
        record {
          here = subst (λ z. z < length nexts) (sym p.0) p.1;
          rest = record { ids = ids; path = after; few = less };
          all = path_ids nexts (length nexts) from (id ∷ ids) p few ∙ ap (λ z. z ∷ ids) (sym p.0)
              ∙ ap (λ xs. from ∷ xs) (sym (path_ids nexts (length nexts) (next_of nexts from) ids after less));
        }

-- distinct ids below a number are at most as many
pub distinct_few : (ids : List ℕ) (n : ℕ) → IsDistinct nat_eq ids → ((id : ℕ) → Contains ids id → id < n) → length ids ≤ n
distinct_few ids n once small = length-le_from_distinct_below ids n once (λ q some.
    let w = any_is (nat_eq q) ids some in
    subst (λ z. z < n) (sym (eqb-true q w.0 w.2)) (small w.0 w.1))

-- without one id
abbrev pub others : ℕ → List ℕ → List ℕ
others id ids = filter (λ other. not (other == id)) ids

pub distinct_others : (id : ℕ) (ids : List ℕ) → IsDistinct nat_eq ids → IsDistinct nat_eq (others id ids)
unfolding IsDistinct
distinct_others id [] once = once
distinct_others id (x ∷ xs) once = elim (cases_Bool (not (x == id))) [
  | inl keep ↦ subst (IsDistinct nat_eq) (sym (cond-true _ _ _ keep))
      (all_apart_from x (others id xs) (λ c. all_apart x xs once.0 (in_filter (λ other. not (other == id)) xs x c).0), distinct_others id xs once.1)
  | inr goes ↦ subst (IsDistinct nat_eq) (sym (cond-false _ _ _ goes)) (distinct_others id xs once.1)
]

-- where an id isn't there, nothing goes
pub others_all : (id : ℕ) (ids : List ℕ) → (Contains ids id → ⊥) → others id ids ≡ ids
others_all id [] off = refl
others_all id (x ∷ xs) off =
    cond-true _ _ _ (ap not (ne_eqb x id (λ e. off (subst (Contains (x ∷ xs)) e (contains_head x xs)))))
    ∙ ap (λ ys. x ∷ ys) (others_all id xs (λ c. off (contains_tail x id xs c)))

-- what stands before an id is where the ids begin, or is one of them
pub before_in : (from id : ℕ) (ids : List ℕ) → (before_of from ids id ≡ from) ⊎ Contains ids (before_of from ids id)
before_in from id [] = inl refl
before_in from id (x ∷ xs) = elim (cases_eq x id) [
  | inl e ↦ inl (cond-true _ _ _ (eq-eqb x id e))
  | inr n ↦
      let far : before_of from (x ∷ xs) id ≡ before_of x xs id = cond-false _ _ _ (ne_eqb x id n) in
      inr (subst (Contains (x ∷ xs)) (sym far) (elim (before_in x id xs) [
        | inl e ↦ subst (Contains (x ∷ xs)) (sym e) (contains_head x xs)
        | inr c ↦ contains_tail x (before_of x xs id) xs c
      ]))
]

-- an id comes in front of those that follow a place
pub path_came : (nexts : List ℕ) (bucket id : ℕ) (ids : List ℕ) → id < length nexts → bucket < length nexts → id < nil → id ≢ bucket → (Contains ids id → ⊥) → (Contains ids bucket → ⊥)
    → IsPath nexts (next_of nexts bucket) ids
    → IsPath (set (set nexts id (next_of nexts bucket)) bucket id) (next_of (set (set nexts id (next_of nexts bucket)) bucket id) bucket) (id ∷ ids)
path_came nexts bucket id ids inside at small apart off_id off_bucket p =
    let v = next_of nexts bucket in
    let mid = set nexts id v in
    let same : length mid ≡ length nexts = length-set nexts id v in
    let after : length (set mid bucket id) ≡ length mid = length-set mid bucket id in
    let next : next_of (set mid bucket id) id ≡ v = get_or-set_other mid bucket id id nil apart ∙ get_or-set_same nexts id v nil inside in (
      get_or-set_same mid bucket id nil (subst (λ n. bucket < n) (sym same) at),
      subst (λ n. id < n) (sym (after ∙ same)) inside,
      small,
      subst (λ z. IsPath (set mid bucket id) z ids) (sym next) (path_frame mid bucket id v ids off_bucket (path_frame nexts id v v ids off_id p)),
    )

-- an id goes: what followed it follows what stood before it
pub path_went : (nexts : List ℕ) (from id : ℕ) (ids : List ℕ) → from < length nexts → (Contains ids from → ⊥) → IsDistinct nat_eq ids → Contains ids id → IsPath nexts (next_of nexts from) ids
    → IsPath (set nexts (before_of from ids id) (next_of nexts id)) (next_of (set nexts (before_of from ids id) (next_of nexts id)) from) (others id ids)
unfolding IsDistinct
path_went nexts from id [] at off once has p = absurd (contains_none id has)
path_went nexts from id (x ∷ xs) at off once has p = elim (cases_eq x id) [
  | inl e ↦
      let v = next_of nexts id in
      let here : before_of from (x ∷ xs) id ≡ from = cond-true _ _ _ (eq-eqb x id e) in
      let gone : Contains xs id → ⊥ = λ c. all_apart x xs once.0 (subst (Contains xs) (sym e) c) in
      let left : others id (x ∷ xs) ≡ xs = cond-false _ _ _ (ap not (eq-eqb x id e)) ∙ others_all id xs gone in
      let next : next_of (set nexts from v) from ≡ next_of nexts x = get_or-set_same nexts from v nil at ∙ ap (next_of nexts) (sym e) in
      subst (λ b. IsPath (set nexts b v) (next_of (set nexts b v) from) (others id (x ∷ xs))) (sym here)
      (subst (IsPath (set nexts from v) (next_of (set nexts from v) from)) (sym left)
      (subst (λ z. IsPath (set nexts from v) z xs) (sym next) (path_frame nexts from v (next_of nexts x) xs (λ c. off (contains_tail x from xs c)) p.3)))
  | inr n ↦
      let v = next_of nexts id in
      let b = before_of x xs id in
      let far : before_of from (x ∷ xs) id ≡ b = cond-false _ _ _ (ne_eqb x id n) in
      let stays : others id (x ∷ xs) ≡ x ∷ others id xs = cond-true _ _ _ (ap not (ne_eqb x id n)) in
      let among : Contains (x ∷ xs) b = elim (before_in x id xs) [
        | inl e ↦ subst (Contains (x ∷ xs)) (sym e) (contains_head x xs)
        | inr c ↦ contains_tail x b xs c
      ] in
      let next : next_of (set nexts b v) from ≡ next_of nexts from = get_or-set_other nexts b from v nil (λ e. off (subst (Contains (x ∷ xs)) (sym e) among)) in
      let later : Contains xs id = elim (contains_cases x id xs has) [ inl e ↦ absurd (n e) | inr c ↦ c ] in
      subst (λ k. IsPath (set nexts k v) (next_of (set nexts k v) from) (others id (x ∷ xs))) (sym far)
      (subst (IsPath (set nexts b v) (next_of (set nexts b v) from)) (sym stays) (
        next ∙ p.0,
        subst (λ k. x < k) (sym (length-set nexts b v)) p.1,
        p.2,
        path_went nexts x id xs p.1 (all_apart x xs once.0) once.1 later p.3,
      ))
]

-- each id of a path has a place
pub path_inside : (nexts : List ℕ) (from : ℕ) (ids : List ℕ) (id : ℕ) → IsPath nexts from ids → Contains ids id → id < length nexts
path_inside nexts from [] id p has = absurd (contains_none id has)
path_inside nexts from (x ∷ xs) id p has = elim (contains_cases x id xs has) [
  | inl e ↦ subst (λ z. z < length nexts) e p.1
  | inr c ↦ path_inside nexts (next_of nexts x) xs id p.3 c
]
