-- Ids that a loop has linked so far, the first of a list.
use Rattle.std.proofs.Common.{◌≡◌, ℕ, ◌+◌, ◌<◌, List, [], ◌∷◌, ◌++◌, length, get_or, take, sym, ◌∙◌, ap, ap₂, subst, inl, inr, ◌⊎◌, Contains, eq-eqb}
use Rattle.std.specs.Prelude.{◌↔◌, nat_eq}
use Rattle.std.specs.List.{IsDistinct}
use Rattle.std.proofs.lemmas.Bool.{both_ways}
use Rattle.std.proofs.lemmas.List.{take_more, get_or_default}
use Rattle.std.proofs.lemmas.List.Elements.{Contains-push_cases, Contains-append_left, Contains-append_right}
use Rattle.std.proofs.lemmas.Map.Keys.{apart_from_distinct}
use Rattle.slot_order.proofs.Lists.{contains_head, contains_take}

-- one more
taken_more : (xs : List ℕ) (k x : ℕ) → k < length xs → Contains (take (k + 1) xs) x ↔ (Contains (take k xs) x ⊎ (x ≡ get_or xs k 0))
taken_more xs k x l = (to, from)
  where
    is : take (k + 1) xs ≡ take k xs ++ get_or xs k 0 ∷ []
    is = take_more xs k 0 l

    to : Contains (take (k + 1) xs) x → Contains (take k xs) x ⊎ (x ≡ get_or xs k 0)
    to c = elim (Contains-push_cases (take k xs) (get_or xs k 0) x (subst (λ ys. Contains ys x) is c)) [ inl h ↦ inl h | inr e ↦ inr (sym e) ]

    from : Contains (take k xs) x ⊎ (x ≡ get_or xs k 0) → Contains (take (k + 1) xs) x
    from (inl c) = subst (λ ys. Contains ys x) (sym is) (Contains-append_left (take k xs) (get_or xs k 0 ∷ []) x c)
    from (inr e) = subst (λ ys. Contains ys x) (sym is) (Contains-append_right (take k xs) (get_or xs k 0 ∷ []) x
        (subst (Contains (get_or xs k 0 ∷ [])) (sym e) (contains_head (get_or xs k 0) [])))

-- of distinct ids the next isn't among those before
pub not_taken : (xs : List ℕ) (k : ℕ) → IsDistinct nat_eq xs → k < length xs → Contains (take k xs) (get_or xs k 0) → ⊥
not_taken xs k d l c =
    let at = contains_take k xs (get_or xs k 0) c in
    both_ways (nat_eq (get_or xs at.0 0) (get_or xs k 0)) (apart_from_distinct nat_eq xs at.0 k 0 d at.1 l) (eq-eqb _ _ (get_or_default xs at.0 0 (get_or xs k 0) at.2 ∙ at.3))

-- the next id is linked above or below another one
pub above_more : (xs : List ℕ) (k id : ℕ) → k < length xs → (upper lower : ℕ)
    → (Contains (take (k + 1) xs) upper × (lower ≡ id)) ↔ ((Contains (take k xs) upper × (lower ≡ id)) ⊎ ◌≡◌ {A = ℕ × ℕ} (upper, lower) (get_or xs k 0, id))
above_more xs k id l upper lower = (
  λ p. elim ((taken_more xs k upper l).0 p.0) [ inl c ↦ inl (c, p.1) | inr e ↦ inr (ap₂ (λ (a b : ℕ). (a, b)) e p.1) ],
  λ c. elim c [
    | inl p ↦ ((taken_more xs k upper l).1 (inl p.0), p.1)
    | inr e ↦ ((taken_more xs k upper l).1 (inr (ap (λ (p : ℕ × ℕ). p.0) e)), ap (λ (p : ℕ × ℕ). p.1) e)
  ],
)

pub below_more : (xs : List ℕ) (k id : ℕ) → k < length xs → (upper lower : ℕ)
    → ((upper ≡ id) × Contains (take (k + 1) xs) lower) ↔ (((upper ≡ id) × Contains (take k xs) lower) ⊎ ◌≡◌ {A = ℕ × ℕ} (upper, lower) (id, get_or xs k 0))
below_more xs k id l upper lower = (
  λ p. elim ((taken_more xs k lower l).0 p.1) [ inl c ↦ inl (p.0, c) | inr e ↦ inr (ap₂ (λ (a b : ℕ). (a, b)) p.0 e) ],
  λ c. elim c [
    | inl p ↦ (p.0, (taken_more xs k lower l).1 (inl p.1))
    | inr e ↦ (ap (λ (p : ℕ × ℕ). p.0) e, (taken_more xs k lower l).1 (inr (ap (λ (p : ℕ × ℕ). p.1) e)))
  ],
)
