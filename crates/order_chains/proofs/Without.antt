-- The pairs of a kind go, one after the other.
use Rattle.std.proofs.Common.{◌≡◌, ℕ, zero, suc, Bool, true, false, ◌||◌, cond, List, [], ◌∷◌, get_or, set, map, Option, Some, None, refl, sym, ap, ◌∙◌, eqb, inl, inr}
use Rattle.std.proofs.lemmas.Bool.{cases_Bool, cond-true, cond-false, eqb-true, eqb-false}
use Rattle.order_chains.specs.Pairs.{Pair, without}
use Rattle.order_chains.specs.Ends.{without_those, has_upper, has_lower}

-- a place whose pair goes may as well be empty
pub one_gone : (goes : Pair → Bool) (xs : List (Option Pair)) (k : ℕ) (p : Pair) → get_or xs k None ≡ Some p → goes p ≡ true → map (without_those goes) (set xs k None) ≡ map (without_those goes) xs
one_gone goes [] k p e t = refl
one_gone goes (x ∷ xs) zero p e t = ap (λ z. z ∷ map (without_those goes) xs) (sym (ap (without_those goes) e ∙ cond-true _ _ _ t))
one_gone goes (x ∷ xs) (suc k) p e t = ap (λ zs. without_those goes x ∷ zs) (one_gone goes xs k p e t)

-- where no pair goes, all is as before
pub none_gone : (goes : Pair → Bool) (xs : List (Option Pair)) → ((k : ℕ) (p : Pair) → get_or xs k None ≡ Some p → goes p ≡ false) → map (without_those goes) xs ≡ xs
none_gone goes [] f = refl
none_gone goes (None ∷ xs) f = ap (λ zs. None ∷ zs) (none_gone goes xs (λ k p. f (suc k) p))
none_gone goes (Some p ∷ xs) f = (λ i. cond-false _ None (Some p) (f 0 p refl) i ∷ none_gone goes xs (λ k q. f (suc k) q) i)

either : (goes : Pair → Bool) (p : Pair) (b : Bool) → without_those goes (cond b None (Some p)) ≡ cond (b || goes p) None (Some p)
either goes p true = refl
either goes p false = refl

pub same_eqb : (x : ℕ) → eqb x x ≡ true
same_eqb x = elim (cases_Bool (eqb x x)) [ inl t ↦ t | inr f ↦ absurd (eqb-false _ _ f refl) ]

pub no_upper : (id : ℕ) (xs : List (Option Pair)) → ((k lower : ℕ) → get_or xs k None ≡ Some (id, lower) → ⊥) → (k : ℕ) (p : Pair) → get_or xs k None ≡ Some p → has_upper id p ≡ false
no_upper id xs f k (upper, lower) e = elim (cases_Bool (eqb upper id)) [
  | inl t ↦ absurd (f k lower (e ∙ ap (λ z. Some (z, lower)) (eqb-true _ _ t)))
  | inr g ↦ g
]

pub no_lower : (id : ℕ) (xs : List (Option Pair)) → ((k upper : ℕ) → get_or xs k None ≡ Some (upper, id) → ⊥) → (k : ℕ) (p : Pair) → get_or xs k None ≡ Some p → has_lower id p ≡ false
no_lower id xs f k (upper, lower) e = elim (cases_Bool (eqb lower id)) [
  | inl t ↦ absurd (f k upper (e ∙ ap (λ z. Some (upper, z)) (eqb-true _ _ t)))
  | inr g ↦ g
]

-- the upper ends first, and then the lower ones
pub both_gone : (id : ℕ) (xs : List (Option Pair)) → map (without_those (has_lower id)) (map (without_those (has_upper id)) xs) ≡ map (without id) xs
both_gone id [] = refl
both_gone id (None ∷ xs) = ap (λ zs. None ∷ zs) (both_gone id xs)
both_gone id (Some p ∷ xs) = (λ i. either (has_lower id) p (has_upper id p) i ∷ both_gone id xs i)
